pub mod Settling
pub mod Relaxing
pub mod Listed
