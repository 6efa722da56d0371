mod Common
pub mod Numbers
pub mod Steps
pub mod Growing
pub mod Places
pub mod Moving
pub mod Applied
pub mod Sharing
