pub mod DepthLemmas
mod TreesKept
mod PutBack
mod ReadLists
mod OpLaws
mod NewPlaces
mod EditSteps
mod OpSteps
