mod Common
pub mod titles
pub mod layout
pub mod equations
pub mod assembly
