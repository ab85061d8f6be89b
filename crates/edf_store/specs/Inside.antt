-- Private contracts alone cite these definitions.
pub mod Settled
pub mod Rows
