pub mod Lists
pub mod Wholes
pub mod Printing
pub mod WholeRead
pub mod Slashes
pub mod Statuses
pub mod KeptParts
