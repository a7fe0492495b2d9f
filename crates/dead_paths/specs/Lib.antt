pub mod Lines
pub mod Making
pub mod Choosing
pub mod Explaining
pub mod Rooms
