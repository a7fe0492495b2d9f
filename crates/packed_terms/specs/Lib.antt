pub mod Light
pub mod Keeping
pub mod Running
