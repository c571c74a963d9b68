pub mod Concerns
pub mod Alone
pub mod OwnPart
