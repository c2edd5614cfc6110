pub mod Answer
pub mod Models
pub mod Reading
pub mod Sending
pub mod Text
pub mod Words
