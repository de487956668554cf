pub mod Steps
pub mod Striking
pub mod Fitting
pub mod Searching
pub mod Opening
pub mod GoingOn
pub mod OverRuns
