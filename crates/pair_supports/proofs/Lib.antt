pub mod Rowing
pub mod Classes
pub mod Serving
pub mod Blocks
pub mod ByWords
pub mod Nearing
