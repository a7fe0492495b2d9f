pub mod Merging
pub mod Gathering
