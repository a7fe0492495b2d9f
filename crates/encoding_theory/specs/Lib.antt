pub mod Variables
pub mod Pairs
pub mod Encoding
pub mod Solutions
pub mod Places
pub mod Reversal
