pub mod Jobs
pub mod Solving
pub mod Teaming
pub mod Gathering
pub mod Teams
pub mod Concluding
