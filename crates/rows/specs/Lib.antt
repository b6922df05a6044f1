pub mod Begun
pub mod Four
pub mod Reach
pub mod Row
pub mod Sign
