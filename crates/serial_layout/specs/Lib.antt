-- The definitions of `serial_layout`: the record of a serial line's reader and the answers of its calls in bytes.
pub mod LineBytes
