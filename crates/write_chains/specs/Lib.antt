pub mod Lists
pub mod Readings
pub mod Walks
pub mod Views
pub mod Held
