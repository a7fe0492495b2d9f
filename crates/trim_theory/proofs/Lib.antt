mod Renaming
mod Simulating
mod Stepped
mod Keeping
pub mod Writing
pub mod Telling
pub mod Accepting
pub mod Listing
mod Referring
pub mod Distinct
pub mod Placed
pub mod Marking
mod Marked
mod Uniqueness
mod TrimRows
