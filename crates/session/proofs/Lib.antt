-- What a session's memory holds, and what any list of calls comes to. Assumes nothing.
pub mod Written
pub mod Fronts
pub mod Steps
pub mod Reached
