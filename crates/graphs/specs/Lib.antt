pub mod Rows
pub mod Graph
pub mod JointTable
pub mod WallGrid
pub mod Nodes
