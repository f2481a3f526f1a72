-- Laws of candidates in cells. Assumes nothing.
pub mod Groups
pub mod Waiting
pub mod Oldest
pub mod Writes
