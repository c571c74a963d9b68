pub mod AcceptLemmas
pub mod ChainLemmas
pub mod EntryLemmas
pub mod HiddenLemmas
pub mod IsolationLemmas
pub mod RunLemmas
pub mod SentLemmas
pub mod UntouchedLemmas
