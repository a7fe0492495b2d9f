pub mod Sums
pub mod Crowds
pub mod Laws
