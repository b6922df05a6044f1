pub mod Sweeps
pub mod Held
