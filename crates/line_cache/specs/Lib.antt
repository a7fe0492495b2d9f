pub mod Sets
pub mod Made
