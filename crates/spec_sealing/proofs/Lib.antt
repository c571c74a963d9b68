pub mod KeyStream
pub mod Headers
pub mod Opening
pub mod Written
pub mod EntryWritten
