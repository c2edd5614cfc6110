mod Prelude
pub mod Places
pub mod Fronts
pub mod SoFar
pub mod Replays
pub mod Sources
pub mod Serial
pub mod Once
pub mod Ranks
pub mod CountedNodes
pub mod Lines
pub mod Tournament
pub mod Made
pub mod PlainLaws
pub mod Listed
pub mod EachPair
pub mod Timed
