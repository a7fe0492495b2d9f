pub mod Indexing
pub mod Marking
pub mod LinesRead
pub mod Fitting
pub mod Advancing
pub mod Renewing
pub mod Accepted
pub mod Hinting
