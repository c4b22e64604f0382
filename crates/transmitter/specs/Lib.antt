-- What a reader must believe of one transmitter: a file a topic, under the names of src/; what is owed of it (Frames,
-- Breaks, Obeys); and its ranges.
pub mod Commands
pub mod Transmitter
pub mod Status
pub mod Frames
pub mod Breaks
pub mod Obeys
pub mod Sound
