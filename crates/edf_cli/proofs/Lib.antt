pub mod Puts
pub mod Parts
pub mod Opened
pub mod Undone
pub mod Filled
mod MadeLists
