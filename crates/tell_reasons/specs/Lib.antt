pub mod Anomalies
pub mod Crossed
pub mod Edges
pub mod Reasons
pub mod Writes
pub mod Versions
pub mod Words
pub mod Names
