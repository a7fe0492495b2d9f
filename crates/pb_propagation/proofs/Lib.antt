pub mod Failing
pub mod Backwards
pub mod SharedRows
pub mod Propagation
pub mod Led
pub mod Marks
