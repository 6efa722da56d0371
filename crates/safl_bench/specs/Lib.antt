pub mod WideNets
pub mod Bits
