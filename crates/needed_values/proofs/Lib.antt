pub mod Marks
pub mod Agreeing
pub mod Others
pub mod Enough
pub mod Parts
pub mod Parting
pub mod Sharing
