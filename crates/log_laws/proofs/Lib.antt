mod Prelude
pub mod Lines
pub mod Replay
pub mod Lists
pub mod Orders
pub mod Moments
pub mod Sessions
pub mod Identities
pub mod Shifted
pub mod Sound
pub mod Resolved
pub mod Txns
