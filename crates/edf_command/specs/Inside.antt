-- Words of private contracts, which no public contract cites.
pub mod Commands
pub mod Matches
pub mod Read
