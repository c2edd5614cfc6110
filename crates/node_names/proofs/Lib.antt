mod Prelude
mod Nodes
mod Names
