pub mod Sets
pub mod Syntax
pub mod Reading
pub mod Text
pub mod Laws
