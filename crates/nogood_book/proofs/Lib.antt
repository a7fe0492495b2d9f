pub mod Lists
pub mod Paths
pub mod Walking
pub mod Reaching
mod Codes
pub mod Parts
mod NextWord
mod ViewLists
mod Steps
mod Keeps
mod Own
mod Opened
mod Trying
