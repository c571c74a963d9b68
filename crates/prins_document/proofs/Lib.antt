pub mod ListedEntries
pub mod WrittenValues
mod BlockRead
mod DocumentRead
mod OrderedValues
