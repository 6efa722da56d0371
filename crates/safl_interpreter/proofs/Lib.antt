mod Common
pub mod Counting
pub mod Entering
pub mod Figured
pub mod Finishing
pub mod Rounding
