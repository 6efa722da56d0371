mod Common
pub mod Signals
pub mod Texts
pub mod Lengths
pub mod Tearing
