pub mod Clearance
pub mod Services
pub mod Fit
