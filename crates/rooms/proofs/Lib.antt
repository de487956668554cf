pub mod Telling
pub mod Rooms
