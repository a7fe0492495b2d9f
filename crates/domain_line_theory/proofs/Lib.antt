pub mod CrowdCounting
pub mod Crowding
pub mod FirstValues
pub mod HighNeighbours
