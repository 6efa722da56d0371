mod Common
pub mod Fronts
pub mod Cuts
pub mod KindCodes
pub mod Loops
pub mod Parsed
pub mod NumbersRead
