pub mod Faults
pub mod Trail
pub mod Forcing
pub mod Sums
