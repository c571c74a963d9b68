pub mod Told
pub mod EventNames
pub mod LineTree
