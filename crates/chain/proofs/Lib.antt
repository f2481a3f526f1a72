-- Laws of chains. Assumes nothing.
pub mod Links
pub mod Turns
pub mod Begin
pub mod Oldest
pub mod Writes
pub mod Releases
