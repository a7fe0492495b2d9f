pub mod Operations
pub mod Rows
pub mod Laws
