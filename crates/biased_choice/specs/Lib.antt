pub mod Bias
pub mod Streams
pub mod Words
