pub mod Lines
pub mod Entries
pub mod Numbers
pub mod Closing
