pub mod Places
pub mod Legal
pub mod Reading
