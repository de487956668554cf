pub mod Chance
pub mod Joints
