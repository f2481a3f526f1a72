-- What the proofs of several functions share. Assumes nothing.
pub mod Numbers
pub mod Written
pub mod Queued
pub mod LastLine
pub mod Session
