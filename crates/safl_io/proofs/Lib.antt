pub mod Telling
pub mod Pieces
pub mod Keeping
pub mod Writing
pub mod Reading
pub mod Files
pub mod Places
pub mod ShelfInMemory
