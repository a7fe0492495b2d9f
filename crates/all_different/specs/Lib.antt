pub mod Ranks
pub mod Prefixes
pub mod Choices
pub mod Pruning
pub mod Members
pub mod Steps
pub mod Memory
