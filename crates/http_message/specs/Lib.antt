pub mod Reading
pub mod Printing
pub mod Forms
pub mod Kept
