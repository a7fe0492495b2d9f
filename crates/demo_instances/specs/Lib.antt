pub mod Stream
pub mod Shapes
pub mod SeedProblems
pub mod Claims
pub mod Listing
