pub mod Lean
pub mod Nodes
pub mod Values
pub mod Building
pub mod Stages
pub mod Spare
pub mod Smaller
