pub mod Meaning
pub mod Factors
pub mod Centre
pub mod Valid
pub mod Radix
pub mod Pairs
pub mod Star
pub mod Fetch
