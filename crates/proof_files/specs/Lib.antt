pub mod Findings
pub mod OneFile
pub mod TwoFiles
pub mod Parts
