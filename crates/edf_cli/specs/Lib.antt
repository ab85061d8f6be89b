pub mod Status
pub mod Output
pub mod Text
pub mod Opened
pub mod Words
pub mod Made
pub mod There
pub mod Making
