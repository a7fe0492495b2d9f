pub mod Choices
pub mod Claims
