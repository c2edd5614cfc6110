pub mod Decoding
pub mod Replaying
