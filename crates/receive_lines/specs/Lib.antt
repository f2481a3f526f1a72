-- What is written of a pass: read in this order. Assumes nothing.
pub mod Lines
pub mod Pass
pub mod Released
pub mod Sent
pub mod Answers
pub mod Forms
pub mod Printing
pub mod Releasing
