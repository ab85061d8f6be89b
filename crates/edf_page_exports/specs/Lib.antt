pub mod Laid
pub mod Asked
