-- A stretch is a list of CLTUs with idle between, and what is heard is received. Assumes nothing.
pub mod Hearing
pub mod Stretches
pub mod Appended
pub mod Rooms
pub mod Seen
pub mod Received
