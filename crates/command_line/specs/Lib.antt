-- How a program's run ends, which file it reads, and the numbers in its arguments. Assumes nothing.
pub mod Status
pub mod Running
pub mod Program
pub mod Input
pub mod Number
