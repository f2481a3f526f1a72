-- Proofs about octets as text. Assumes nothing.
pub mod OctetByOctet
mod ReadBack
pub mod DigitByDigit
