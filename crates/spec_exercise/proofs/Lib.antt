pub mod LineCounts
pub mod Apart
