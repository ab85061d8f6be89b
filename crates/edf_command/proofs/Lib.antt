pub mod Texts
pub mod Written
pub mod Staying
pub mod Opened
mod Answers
mod FewValues
mod Levels
mod Made
mod ManyValues
mod Places
mod Requests
mod Told
mod Values
