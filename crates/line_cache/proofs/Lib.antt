pub mod Orders
pub mod Seating
pub mod Known
pub mod Giving
