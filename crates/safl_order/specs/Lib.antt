pub mod Order
pub mod Walk
pub mod Refusals
pub mod Laws
