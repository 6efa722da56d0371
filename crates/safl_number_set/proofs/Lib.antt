mod Common
pub mod SumsOfParts
pub mod WeighedLists
pub mod LinkedBlocks
pub mod CountedGroups
pub mod FreshGroups
