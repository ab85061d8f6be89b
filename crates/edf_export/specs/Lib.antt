pub mod Export
pub mod Again
pub mod Headline
pub mod Inside
