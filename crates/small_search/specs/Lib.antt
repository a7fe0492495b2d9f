pub mod Small
pub mod Placing
