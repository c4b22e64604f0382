-- The theorem of `specs/Agrees.antt` of the crate `replay_script`, the laws that it goes by, and examples.
pub mod Laws
pub mod Agrees
pub mod Examples
