-- What the number of each refusal is, and its text. Assumes nothing.
pub mod Numbers
