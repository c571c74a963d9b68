pub mod Mirror
mod Tables
