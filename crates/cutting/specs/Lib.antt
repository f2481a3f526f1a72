-- How a candidate is cut, what a cutter has still to cut, and the laws of cutting. Assumes nothing.
pub mod Cutting
pub mod Items
pub mod Laws
