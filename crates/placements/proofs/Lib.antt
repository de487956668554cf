pub mod Masks
pub mod Morphisms
pub mod Orders
pub mod Deciding
pub mod Listings
pub mod Worked
pub mod Counting
