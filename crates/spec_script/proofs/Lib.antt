pub mod HandLemmas
pub mod StepLemmas
pub mod VerifierLemmas
pub mod FaultLemmas
pub mod OutputLemmas
pub mod StateLemmas
pub mod StartLemmas
