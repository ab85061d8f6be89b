pub mod Plain
pub mod Cut
pub mod Legible
pub mod Ends
pub mod Joined
pub mod During
pub mod Levels
