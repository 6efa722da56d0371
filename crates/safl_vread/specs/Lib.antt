pub mod Firsts
pub mod Lists
pub mod Scopes
pub mod Drivers
pub mod Parts
pub mod Signals
pub mod Nets
