pub mod Bands
pub mod Gaps
pub mod Markup
pub mod Picture
pub mod Readable
