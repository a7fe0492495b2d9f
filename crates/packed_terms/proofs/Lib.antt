pub mod Copying
pub mod InPlace
