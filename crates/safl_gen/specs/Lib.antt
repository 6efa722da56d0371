pub mod Draws
pub mod Source
