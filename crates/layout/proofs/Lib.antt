-- The laws of `layout`: what is written one behind the other; bytes, numbers and circuits, packed and unpacked.
pub mod Copies
pub mod Parts
