pub mod Splitting
pub mod OpbReadBack
pub mod StepReadBack
pub mod LogSound
pub mod LogVerdicts
pub mod LogFronts
pub mod LogAnswers
pub mod PlainReadBack
pub mod Dropping
pub mod DroppedLogs
mod OpbRows
pub mod LogRows
mod PlainRows
