-- The sequence's rule, its period, and the laws of adding it. Assumes nothing.
mod Rule
pub mod Period
pub mod Laws
