pub mod Told
pub mod Rows
pub mod Reach
pub mod Levels
pub mod Led
pub mod Rooted
