pub mod Figures
pub mod Served
pub mod Fitting
