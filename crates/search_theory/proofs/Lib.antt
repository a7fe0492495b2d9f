pub mod Pairs
pub mod Domains
pub mod Luby
pub mod Enough
pub mod Cutoffs
pub mod Refuted
pub mod Rows
pub mod Left
