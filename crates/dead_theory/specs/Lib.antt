pub mod Changes
pub mod Ends
pub mod Walks
pub mod Laws
