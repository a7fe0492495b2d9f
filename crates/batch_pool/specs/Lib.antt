pub mod Rule
pub mod Placing
