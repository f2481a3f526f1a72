-- What the proofs share. Assumes nothing.
pub mod Idle
pub mod Used
pub mod Raised
pub mod Recovered
pub mod Released
pub mod Commanded
pub mod Heard
pub mod Answered
pub mod Sent
pub mod Received
