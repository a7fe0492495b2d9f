pub mod Passing
pub mod Rooted
pub mod Claims
pub mod Leading
pub mod FedLines
pub mod FileRead
pub mod PieceFed
