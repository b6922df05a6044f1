pub mod Record
pub mod Example
