-- Lemmas on guard times. Assumes nothing.
pub mod Ceiling
pub mod RowsLemmas
pub mod Columns
pub mod OneText
pub mod Texts
pub mod Commas
