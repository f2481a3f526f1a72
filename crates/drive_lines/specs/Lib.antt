-- What lines ask a receiver for, and what they are answered by: read in this order. Assumes nothing.
pub mod Words
pub mod Asked
pub mod Answers
pub mod Driven
pub mod Session
pub mod Calling
pub mod Driving
pub mod Reads
