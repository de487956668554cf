pub mod Telling
pub mod Table
