pub mod Kept
mod Unions
