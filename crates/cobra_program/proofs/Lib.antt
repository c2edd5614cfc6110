pub mod Told
pub mod Serving
pub mod Calling
