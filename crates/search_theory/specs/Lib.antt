pub mod Consistency
pub mod Fits
pub mod Claims
pub mod Bounds
pub mod Account
pub mod Remaining
pub mod Laws
