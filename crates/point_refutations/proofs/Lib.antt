mod Found
mod Ways
mod Orderless
