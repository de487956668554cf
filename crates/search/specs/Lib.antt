pub mod Walk
pub mod Found
pub mod Masks
pub mod Tries
