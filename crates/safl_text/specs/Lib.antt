pub mod Fronts
pub mod Lexing
pub mod Spans
