pub mod Writing
pub mod Order
pub mod Carding
pub mod Opening
pub mod Going
pub mod Listing
pub mod Taking
pub mod Answering
