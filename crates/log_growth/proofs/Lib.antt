pub mod Going
pub mod Naming
pub mod Steps
pub mod Rows
