pub mod CountedLists
pub mod Walked
pub mod Answering
pub mod Keeping
