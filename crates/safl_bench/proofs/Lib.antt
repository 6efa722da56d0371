pub mod Growing
pub mod Takes
mod Wires
