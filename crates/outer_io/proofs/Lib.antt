pub mod KnownTexts
pub mod HeldBytes
pub mod JoinedPieces
pub mod OtherFiles
pub mod FilesInMemory
pub mod ReadingInMemory
pub mod MemoryFaults
