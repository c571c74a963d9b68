pub mod Records
pub mod Keys
pub mod RecordDocument
pub mod RecordRows
