pub mod Transaction
pub mod Gap
pub mod Verdict
pub mod Course
pub mod Halt
pub mod Taken
