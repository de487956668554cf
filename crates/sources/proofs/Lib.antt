pub mod SetBits
pub mod Tables
pub mod Drawing
pub mod Grids
