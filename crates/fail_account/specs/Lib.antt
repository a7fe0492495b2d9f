pub mod Held
pub mod Rows
pub mod Powers
pub mod Examples
