pub mod Looped
pub mod Degrees
