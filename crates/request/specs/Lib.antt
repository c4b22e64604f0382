-- What a reader must believe of the frame request.
pub mod Request
