pub mod IdBound
pub mod EventForms
pub mod Following
pub mod Happenings
pub mod Runs
