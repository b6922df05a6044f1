pub mod Mets
pub mod Listed
pub mod Known
