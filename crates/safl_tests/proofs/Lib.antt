pub mod NestedForms
pub mod Words
pub mod Forms
