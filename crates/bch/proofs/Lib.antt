-- Laws of polynomials modulo 2 and of the code. Assumes nothing.
pub mod Sums
pub mod Division
pub mod Weights
pub mod Syndromes
pub mod Places
pub mod Octets
pub mod Laws
