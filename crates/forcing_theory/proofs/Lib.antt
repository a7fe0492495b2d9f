pub mod Uniting
pub mod Chaining
pub mod Summing
