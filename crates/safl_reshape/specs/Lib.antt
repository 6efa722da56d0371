pub mod Executions
pub mod Laws
pub mod Changed
pub mod Reshaped
pub mod Counting
pub mod Limits
pub mod Lists
pub mod Refusals
