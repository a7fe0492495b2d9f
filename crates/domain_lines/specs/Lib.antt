pub mod Choosing
pub mod Operands
pub mod Named
pub mod Given
