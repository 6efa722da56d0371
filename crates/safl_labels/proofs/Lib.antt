mod Common
pub mod Alike
pub mod Lists
pub mod Kept
