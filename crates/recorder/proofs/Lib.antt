pub mod Telling
pub mod Entries
pub mod Guesses
