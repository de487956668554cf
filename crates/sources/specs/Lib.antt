pub mod Drawn
pub mod Faults
pub mod Taking
pub mod Pairs
