mod Common
pub mod Places
pub mod Steps
pub mod Moves
pub mod Loops
pub mod Ends
