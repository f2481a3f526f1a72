-- Lemmas on the lines that answer frames. Assumes nothing.
mod Memory
