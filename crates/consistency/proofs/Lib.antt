pub mod Rooms
pub mod Lone
pub mod Lowest
pub mod Steps
pub mod Cuts
pub mod Counts
pub mod Classes
pub mod Turns
