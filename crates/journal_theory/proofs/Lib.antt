pub mod Placing
mod Agreeing
pub mod Writing
pub mod Growing
pub mod Merging
mod Accepting
