-- What a hold of one cell holds. Assumes nothing.
pub mod Held
