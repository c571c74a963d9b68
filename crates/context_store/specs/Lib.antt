pub mod Stores
pub mod Changes
pub mod ByKind
pub mod CallFaults
