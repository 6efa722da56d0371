pub mod Accounts
pub mod Comes
pub mod Measured
pub mod Rounds
pub mod Sound
pub mod Turns
