-- The laws of the frame request.
pub mod Laws
mod ShutOut
