-- Laws of the layer. Assumes nothing.
pub mod Shown
