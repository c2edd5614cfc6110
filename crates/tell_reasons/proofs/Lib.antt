mod Prelude
pub mod Joined
pub mod Ops
pub mod Rows
pub mod First
pub mod Found
