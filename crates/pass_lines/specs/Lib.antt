-- What the program `pass` makes of lines. Assumes nothing.
pub mod Given
pub mod Cltus
pub mod Symbols
pub mod Received
pub mod Places
pub mod Forms
pub mod Making
pub mod Told
pub mod Laws
pub mod LinesLaw
