pub mod DrawsInOrder
pub mod Lengths
pub mod Pieces
