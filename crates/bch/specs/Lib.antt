-- The telecommand code: read in this order. Assumes nothing.
pub mod Bits
pub mod Polynomial
pub mod Codeblock
pub mod Reception
pub mod Laws
