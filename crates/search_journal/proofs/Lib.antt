pub mod Levels
pub mod Lists
pub mod Frames
pub mod Writing
pub mod Numbers
pub mod Closing
