pub mod Searching
pub mod Acting
pub mod Sharing
pub mod Logging
pub mod Positions
pub mod Working
pub mod Degrees
