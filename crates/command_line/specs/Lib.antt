pub mod Words
pub mod Pairs
pub mod Questions
pub mod Grammar
pub mod CommandLine
pub mod Batch
