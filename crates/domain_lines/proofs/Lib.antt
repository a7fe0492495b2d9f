pub mod Members
pub mod Turning
pub mod Crowds
pub mod Composing
