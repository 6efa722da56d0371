mod Common
pub mod Gathering
pub mod Nets
pub mod Sources
pub mod Cells
pub mod Ordering
pub mod Connecting
pub mod Mirroring
pub mod Naming
pub mod Running
pub mod Writing
