-- The options of a receiver. Assumes nothing.
pub mod Options
pub mod Asked
