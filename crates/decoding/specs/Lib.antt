-- What decoding is set to, and what it makes of symbols and of a hold. Assumes nothing.
pub mod Meaning
pub mod Counts
pub mod Outcomes
