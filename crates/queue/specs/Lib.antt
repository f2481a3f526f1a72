-- What waits in a queue. Assumes nothing.
pub mod Waiting
