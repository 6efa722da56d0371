pub mod Sources
pub mod Circuits
pub mod Optimised
pub mod Laws
