-- Guard times between commands, and the text that tells them: read in this order. Assumes nothing.
pub mod Rate
pub mod Guard
pub mod Rows
pub mod Csv
pub mod Table
pub mod Answers
pub mod Options
pub mod Arguments
