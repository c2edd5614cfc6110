mod Prelude
mod Sound
mod Named
mod Usages
mod Marks
mod Scan
mod Turns
mod Clashes
