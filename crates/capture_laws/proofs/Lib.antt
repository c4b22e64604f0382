-- Our capture is order 7's, no log of it passes 46,810 bytes, and it reads order 6's dumps back as their waves.
pub mod Readable
pub mod Captures
pub mod Dumps
pub mod ReadsBack
pub mod Alike
pub mod Enough
mod ShutOut
