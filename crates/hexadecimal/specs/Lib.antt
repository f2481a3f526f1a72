-- What octets are as hexadecimal text. Assumes nothing.
pub mod Text
pub mod Kept
pub mod Reading
