-- The definitions of `receiver`: the record and its range, reading, lists of reading calls, and what a call tells by the bodies of the bits alone.
pub mod Record
pub mod Reading
pub mod Reads
pub mod TellsFirst
