pub mod Cutting
pub mod Decimals
pub mod Tokens
pub mod HoleForms
