pub mod Joints
pub mod Reading
pub mod Heights
pub mod Jobs
pub mod Steps
