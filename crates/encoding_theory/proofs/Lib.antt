pub mod PairTests
pub mod Counting
pub mod Collected
pub mod FormMeanings
pub mod Indicators
pub mod SolutionsEmbed
pub mod EmbeddingsSolve
pub mod SolutionProofs
pub mod PlaceProofs
pub mod ReversedForms
mod WorkedRows
