pub mod Cutting
pub mod Stopping
