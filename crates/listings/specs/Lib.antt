pub mod Text
pub mod Suited
pub mod Fitted
pub mod JobText
