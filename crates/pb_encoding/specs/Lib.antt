pub mod Numbers
pub mod Lines
pub mod Agreement
pub mod Model
pub mod Writing
pub mod Gathering
