-- The arguments of the program encode. Assumes nothing.
pub mod Command
pub mod Words
