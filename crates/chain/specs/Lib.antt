-- The cells of a chain in the order of their links, and what a chain holds. Assumes nothing.
pub mod Links
pub mod Sound
pub mod Held
pub mod Taken
