-- The candidates in cells that are read one behind the other, and what the counts of them say. Assumes nothing.
pub mod Cells
pub mod Sound
pub mod Held
