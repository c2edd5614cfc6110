pub mod Anomalies
pub mod Told
