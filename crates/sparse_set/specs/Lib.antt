pub mod Removals
pub mod Inside
