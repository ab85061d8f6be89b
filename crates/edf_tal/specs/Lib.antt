pub mod Tal
pub mod Condition
pub mod Block
pub mod Canonical
pub mod Inside
