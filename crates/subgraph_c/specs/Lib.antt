pub mod Asking
pub mod Reports
pub mod Deciding
pub mod Verifying
pub mod Checking
pub mod Encoding
pub mod Holding
pub mod Stopping
