pub mod Rows
pub mod Places
pub mod Facts
pub mod Reaching
pub mod Words
pub mod Views
pub mod Plays
pub mod Seats
