pub mod WordLemmas
pub mod Lists
pub mod TemplateLemmas
pub mod NameLemmas
pub mod GrantLemmas
pub mod SameLemmas
pub mod PrintLemmas
