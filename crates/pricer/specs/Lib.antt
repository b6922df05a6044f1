pub mod Pricer
