pub mod Names
pub mod Known
pub mod Tables
pub mod Mirror
