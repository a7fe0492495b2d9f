pub mod Lists
pub mod Nogoods
pub mod Covering
pub mod Watching
pub mod InForce
pub mod Inside
pub mod Walking
