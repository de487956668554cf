pub mod Bounds
pub mod Refused
pub mod Step
pub mod Runs
