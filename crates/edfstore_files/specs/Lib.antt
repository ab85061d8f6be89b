pub mod Files
pub mod Turns
pub mod ProgramRun
pub mod Close
