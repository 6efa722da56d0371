mod Common
pub mod PiecesOfText
pub mod WordsOfLines
pub mod LinesOfScripts
pub mod OneListOfReplies
pub mod QuietStates
pub mod Serving
pub mod SentLines
pub mod ReadyStates
pub mod Holds
