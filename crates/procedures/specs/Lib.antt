-- What is on the carrier from an acquisition to the break behind it, and what a receiver makes of it: read in this
-- order. Assumes nothing.
pub mod Stretch
pub mod Signals
pub mod Reception
