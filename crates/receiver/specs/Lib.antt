-- What a receiver's state means, and what its calls answer and leave: read in this order. Assumes nothing.
pub mod Phases
pub mod Meaning
pub mod Calls
pub mod Events
pub mod Joined
