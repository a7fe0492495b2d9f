pub mod Referring
pub mod Stepping
pub mod Journals
pub mod Merging
pub mod Laws
