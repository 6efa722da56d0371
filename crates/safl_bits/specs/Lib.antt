pub mod Laws
pub mod Gates
pub mod Operators
pub mod Numbers
pub mod Weights
pub mod Results
pub mod Sharing
