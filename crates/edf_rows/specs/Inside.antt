-- Private contracts alone cite these definitions.
pub mod Shape
pub mod All
pub mod Records
pub mod Checked
