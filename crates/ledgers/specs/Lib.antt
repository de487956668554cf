pub mod Calls
pub mod Wanted
pub mod Ledger
pub mod Answered
pub mod Counts
pub mod Ranged
