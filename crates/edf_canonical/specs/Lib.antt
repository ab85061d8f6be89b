pub mod File
pub mod Output
pub mod Measure
pub mod Source
pub mod Sending
