pub mod Rooms
pub mod Calls
pub mod Runners
pub mod Laws
pub mod Steps
