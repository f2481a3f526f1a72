-- What symbols count as. Assumes nothing.
pub mod Levels
pub mod Symbols
pub mod Windows
