pub mod Failing
pub mod Missing
pub mod Simple
pub mod Numbers
pub mod PairTexts
pub mod Rows
pub mod Apart
mod BatchRows
