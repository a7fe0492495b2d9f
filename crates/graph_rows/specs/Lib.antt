pub mod Held
pub mod Fitting
pub mod Labels
pub mod Near
pub mod Orders
pub mod Sameness
