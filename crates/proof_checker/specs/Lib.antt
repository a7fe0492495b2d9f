pub mod Passing
pub mod Ones
pub mod Turns
pub mod Stages
pub mod Feeding
pub mod Filed
