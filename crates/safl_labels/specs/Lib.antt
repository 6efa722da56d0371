pub mod Shown
pub mod Likeness
pub mod Walks
pub mod Kept
pub mod Found
