-- Private contracts cite these, and no public contract does.
pub mod Rows
pub mod Shape
