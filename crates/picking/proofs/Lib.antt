-- The laws of `picking`.
pub mod PickingLaws
