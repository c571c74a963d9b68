pub mod MarkLists
pub mod Spellings
pub mod Settling
pub mod Capping
pub mod FillTexts
pub mod FillLists
pub mod SiteLemmas
pub mod FitLemmas
mod AboutLemmas
