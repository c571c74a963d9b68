pub mod RecordLemmas
pub mod AloneLemmas
