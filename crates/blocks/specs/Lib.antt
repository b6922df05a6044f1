pub mod Choice
pub mod Block
