mod Noting
mod PartTexts
mod Putting
mod RowSteps
mod Accepting
mod Claiming
mod Images
mod Holding
mod Joining
pub mod Profiled
mod Ranges
