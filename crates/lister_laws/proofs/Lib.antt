-- What the frame lister prints: the laws, the theorem for any bytes, the example of document 01, and what that shuts out.
pub mod Laws
pub mod Lines
pub mod Examples
mod ShutOut
