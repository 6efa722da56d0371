mod Common
pub mod Joining
pub mod Rows
pub mod Cutting
pub mod Passing
pub mod Rereading
pub mod Evaluating
pub mod Naming
pub mod Building
pub mod Concluding
pub mod ReadOnce
pub mod Deciding
pub mod Parsing
