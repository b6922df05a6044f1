pub mod Path
pub mod Demand
pub mod Sums
pub mod Sequences
pub mod Ways
pub mod Prices
pub mod Live
pub mod Demand2
