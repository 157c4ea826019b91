-- The laws of `serial_layout`: the record and its bytes determine each other.
pub mod LineRoundTrip
