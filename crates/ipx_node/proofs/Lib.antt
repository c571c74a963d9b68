pub mod Putting
pub mod Deep
pub mod Passed
