-- Laws of CLTUs. Assumes nothing.
pub mod Places
pub mod Longest
