-- The rules of reception, and what holds of every run of them: read in this order. Assumes nothing.
pub mod Reports
pub mod Symbols
pub mod Searching
pub mod Decoding
pub mod Rules
pub mod Runs
pub mod Calls
pub mod Allowance
pub mod Finished
pub mod Recovery
pub mod Gaps
pub mod Sent
pub mod Told
pub mod Joined
pub mod Promise
