pub mod Planner
