-- The lemmas that the proofs of this crate share. Assumes nothing.
mod Numbers
mod Octets
mod Packing
mod Places
mod Laid
mod FirstFault
mod Written
mod Kept
mod Within
mod Coming
