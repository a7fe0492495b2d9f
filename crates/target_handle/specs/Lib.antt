pub mod Target
pub mod Owning
pub mod Opened
