mod OneProgram
mod Ports
pub mod Mirrored
