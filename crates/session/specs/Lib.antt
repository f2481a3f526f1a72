-- What a session writes and answers, where each call leads, and what any list of calls comes to: read in this order.
-- Assumes nothing.
pub mod Writing
pub mod Calls
pub mod Machine
pub mod Promise
