pub mod FirstOfList
pub mod Walk
pub mod InClear
