pub mod Gives
pub mod Parts
pub mod TokenAnswers
pub mod Reads
pub mod Spelled
pub mod Answers
pub mod Errors
pub mod Numberless
