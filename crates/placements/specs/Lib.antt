pub mod Agreement
pub mod Placement
pub mod Order
pub mod Morphisms
pub mod Tests
pub mod Listing
pub mod Counting
