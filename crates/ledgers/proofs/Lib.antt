pub mod Finding
pub mod Verdicts
pub mod Balance
pub mod Unique
pub mod Saving
pub mod Good
