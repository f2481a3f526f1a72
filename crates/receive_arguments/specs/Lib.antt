-- The arguments of the program receive. Assumes nothing.
pub mod Command
pub mod Asked
