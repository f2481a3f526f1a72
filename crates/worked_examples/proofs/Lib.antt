-- The worked examples, computed, and what follows of a codeblock and of a first failure. Assumes nothing.
mod Computed
mod Accepted
mod First
