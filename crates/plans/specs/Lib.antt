pub mod Walk
pub mod Kept
pub mod Fit
pub mod Steps
pub mod Goal
