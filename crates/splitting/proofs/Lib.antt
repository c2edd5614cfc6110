mod Prelude
pub mod Greatest
pub mod Decimals
pub mod KeyNumbers
pub mod Fresh
pub mod Keys
pub mod Steps
pub mod Named
pub mod Walks
pub mod Whole
pub mod Sides
