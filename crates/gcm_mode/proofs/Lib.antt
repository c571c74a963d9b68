pub mod ByteProducts
pub mod Horner
pub mod Masks
pub mod Nibbles
pub mod Parts
pub mod Products
pub mod WholeBlocks
