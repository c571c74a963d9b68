pub mod Documents
pub mod View
