pub mod CoverLemmas
pub mod MappingLemmas
pub mod BodyNear
pub mod SecretFound
pub mod TouchLemmas
pub mod CoverTree
