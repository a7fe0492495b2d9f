pub mod Removals
pub mod Changes
pub mod Inside
pub mod Runs
