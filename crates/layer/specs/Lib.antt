pub mod Layer
pub mod Board
pub mod Lent
pub mod Held
pub mod First
