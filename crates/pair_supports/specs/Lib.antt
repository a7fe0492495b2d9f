pub mod Rows
pub mod Kinds
pub mod Held
pub mod Near
pub mod Shape
