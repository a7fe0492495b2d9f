pub mod Lines
pub mod Notes
pub mod Steps
pub mod Answers
pub mod Premises
pub mod Profiles
