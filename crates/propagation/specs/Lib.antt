pub mod Propagation
pub mod Learning
pub mod Acting
pub mod Edges
pub mod Crowding
pub mod Ordering
pub mod Taking
