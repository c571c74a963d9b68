pub mod Grammars
pub mod Capped
