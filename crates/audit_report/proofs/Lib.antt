mod Prelude
mod Names
