-- The lines of an input, and what they are answered by. Assumes nothing.
pub mod Meaning
pub mod Lines
pub mod Answers
pub mod Printed
pub mod Taken
pub mod Printing
