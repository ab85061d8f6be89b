pub mod Run
pub mod Words
pub mod Inside
