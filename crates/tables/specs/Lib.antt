pub mod Tables
pub mod Fit
