pub mod ByRows
pub mod Filling
pub mod Walked
