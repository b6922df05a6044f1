pub mod Verdict
pub mod Whole
