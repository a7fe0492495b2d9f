pub mod Proofs
pub mod Making
pub mod Parts
pub mod Logs
