-- The lines that answer frames. Assumes nothing.
pub mod Lines
pub mod TooLong
