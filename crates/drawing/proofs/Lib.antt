pub mod Joints
pub mod Rows
