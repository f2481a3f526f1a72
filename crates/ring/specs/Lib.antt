-- What a ring holds. Assumes nothing.
pub mod Held
