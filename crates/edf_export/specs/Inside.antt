pub mod Calls
pub mod Walks
pub mod Steps
