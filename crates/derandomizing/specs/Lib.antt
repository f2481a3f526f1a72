-- The derandomizing layer: its showing, and the hold below it. Assumes nothing.
pub mod Derandomized
pub mod Apart
pub mod Below
