pub mod Cuts
pub mod Answering
pub mod Writing
pub mod Values
