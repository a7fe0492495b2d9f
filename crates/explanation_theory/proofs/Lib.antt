pub mod Giving
pub mod Forcing
pub mod SetCounting
pub mod OverCounting
pub mod Explaining
