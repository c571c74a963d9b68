pub mod RecordLemmas
pub mod RecordReading
pub mod Fitting
pub mod NameLemmas
pub mod RecordDepth
