pub mod Rows
pub mod Places
pub mod NodeRows
pub mod Placed
