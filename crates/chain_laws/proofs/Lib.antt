mod Prelude
pub mod Walks
pub mod Coalesced
pub mod Maximal
pub mod Closed
pub mod OneChain
