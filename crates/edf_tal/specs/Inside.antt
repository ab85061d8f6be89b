-- Definitions of private contracts: no public one cites them.
pub mod Scan
pub mod Blocks
