pub mod Sorting
pub mod Weights
pub mod Rounding
pub mod Rules
pub mod Refutation
mod FormRows
pub mod Propagation
