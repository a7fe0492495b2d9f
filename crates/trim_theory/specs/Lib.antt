pub mod Renaming
pub mod Running
pub mod Trimming
pub mod Logs
pub mod Marking
pub mod Laws
