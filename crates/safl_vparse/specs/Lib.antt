pub mod Fronts
pub mod Shown
pub mod Gives
pub mod Reads
pub mod Parsed
pub mod Numbers
