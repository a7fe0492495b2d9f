pub mod Cutting
pub mod Kinds
pub mod Lines
pub mod Parts
pub mod Pieces
