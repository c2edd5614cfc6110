mod Prelude
mod Parts
mod Doubles
mod Points
mod Resolved
mod WeakerLevels
mod Lowest
