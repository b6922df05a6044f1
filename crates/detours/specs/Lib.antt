pub mod Detours
