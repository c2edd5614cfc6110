mod Prelude
pub mod Inherited
pub mod Checked
