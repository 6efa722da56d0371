pub mod Numbers
pub mod Tallies
pub mod Linking
pub mod Groups
