pub mod Exact
pub mod Metadata
pub mod Lines
pub mod Paths
pub mod Numbered
pub mod Faults
pub mod Parts
pub mod Kept
