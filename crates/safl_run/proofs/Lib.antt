pub mod ListsOfWords
pub mod InputsAroundStart
pub mod OneAnswer
pub mod Going
pub mod Harnessing
pub mod Stepping
