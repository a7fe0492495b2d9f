pub mod Sequences
pub mod Target
pub mod Kept
