pub mod Entries
pub mod KeySchedule
pub mod Words
