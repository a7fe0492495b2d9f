pub mod Units
pub mod Sums
pub mod Chains
pub mod Laws
