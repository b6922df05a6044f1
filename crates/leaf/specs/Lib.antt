pub mod Price
pub mod Settle
pub mod Pass
pub mod Lent
