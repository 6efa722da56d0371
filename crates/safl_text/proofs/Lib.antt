pub mod PrefixByRuns
pub mod CutsByPieces
pub mod TokensInText
