pub mod Bools
pub mod Bits
pub mod Rows
pub mod JointTables
pub mod Walls
pub mod PairSets
pub mod Lowest
pub mod FromFn
