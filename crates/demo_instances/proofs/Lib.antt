pub mod Lists
pub mod Graphs
pub mod Exchanges
pub mod Shown
pub mod Places
pub mod Streams
