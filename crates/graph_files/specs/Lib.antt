pub mod GraphFile
pub mod Conversions
