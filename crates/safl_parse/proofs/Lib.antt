mod Common
pub mod Rows
pub mod Loops
pub mod Refusals
pub mod Sources
pub mod KindCodes
