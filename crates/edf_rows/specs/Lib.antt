pub mod Cells
pub mod Rows
pub mod Foreign
pub mod Inside
pub mod File
