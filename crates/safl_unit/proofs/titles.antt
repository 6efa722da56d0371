pub mod Legal
pub mod Apart
pub mod Titles
pub mod Outputs
