-- The lemmas that the proofs of this crate share. Assumes nothing.
mod Cuts
mod FirstLine
mod Reading
mod Receiving
mod Sending
mod Twice
mod Segments
mod CutApart
mod Packing
mod Passing
mod Laws
mod Printed
