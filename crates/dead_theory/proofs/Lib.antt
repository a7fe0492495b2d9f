pub mod Choosing
pub mod Naming
pub mod Literals
pub mod Explaining
pub mod Ending
pub mod Dying
mod Worked
