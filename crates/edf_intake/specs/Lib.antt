pub mod Refusal
pub mod Input
pub mod Submitted
pub mod Batch
pub mod Inside
