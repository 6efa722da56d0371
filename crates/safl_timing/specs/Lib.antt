pub mod Endings
pub mod Lines
pub mod Names
pub mod Requests
pub mod Secrets
pub mod Tasks
