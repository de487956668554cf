pub mod Filter
pub mod Composed
pub mod Kept
pub mod Laws
pub mod Shapes
pub mod Counting
