pub mod Plan
pub mod Told
