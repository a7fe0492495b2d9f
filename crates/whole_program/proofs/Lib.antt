pub mod LineTexts
pub mod Loading
pub mod Verdicts
pub mod OneBatch
pub mod Alone
pub mod Statuses
