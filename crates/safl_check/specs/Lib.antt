pub mod Groups
pub mod Answers
pub mod Numbered
pub mod Laws
pub mod Functions
pub mod Parts
