pub mod Words
pub mod Granted
pub mod Target
pub mod View
pub mod Reading
pub mod Same
