pub mod Limits
pub mod Lines
pub mod Statuses
pub mod Tasks
pub mod Inputs
pub mod Endings
