-- Rounds of a circle, and places in it. Assumes nothing.
pub mod Circle
pub mod Turns
