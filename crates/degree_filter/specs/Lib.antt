pub mod Degrees
