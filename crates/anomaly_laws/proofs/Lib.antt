mod Prelude
pub mod Lists
pub mod Writes
pub mod Tests
pub mod Listed
pub mod Clean
pub mod Serial
pub mod First
pub mod Meaning
