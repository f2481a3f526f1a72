-- What a pass record is, what one that was read holds, and what writing one answers. Assumes nothing.
pub mod Record
pub mod Reading
pub mod Segments
pub mod Faults
pub mod FaultText
pub mod Writing
