mod Prelude
pub mod SameEdges
pub mod Reduced
pub mod Plain
pub mod Logs
pub mod Made
