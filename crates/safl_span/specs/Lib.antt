pub mod Figures
pub mod Sharing
