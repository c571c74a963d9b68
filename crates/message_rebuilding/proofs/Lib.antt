pub mod Values
pub mod Fillings
