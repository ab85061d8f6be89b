pub mod Exports
pub mod Walks
pub mod Planned
pub mod Again
pub mod Calls
pub mod FromWalk
pub mod Headline
