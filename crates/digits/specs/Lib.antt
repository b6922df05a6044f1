pub mod Moves
pub mod Digits
pub mod Paired
