-- What the examples promise, in words of their own. Assumes nothing.
pub mod InUse
pub mod Command
pub mod BothEnds
