-- Laws of rings. Assumes nothing.
pub mod Turns
