pub mod Needed
pub mod Consistent
pub mod Sharers
