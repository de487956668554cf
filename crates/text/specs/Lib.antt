pub mod Lay
pub mod Put
