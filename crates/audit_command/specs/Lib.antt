pub mod Audited
pub mod Distinct
pub mod Levels
pub mod Places
pub mod Resolved
pub mod Printed
