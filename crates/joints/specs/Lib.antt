-- The definitions of `joints`: the table of cases.
pub mod Joints
