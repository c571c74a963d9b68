pub mod FindLemmas
pub mod TurnLemmas
pub mod LineLemmas
pub mod NameLemmas
pub mod SelfLemmas
