pub mod Playing
pub mod Endings
