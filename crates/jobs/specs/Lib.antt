pub mod Joints
pub mod Head
pub mod Form
pub mod Read
pub mod Told
