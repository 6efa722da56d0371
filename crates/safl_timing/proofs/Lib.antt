pub mod Done
pub mod Joined
pub mod Naming
pub mod Options
