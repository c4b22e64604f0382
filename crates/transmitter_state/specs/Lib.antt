-- What a reader must believe of a transmitter's state and of its pulses: a file a topic, under the names of src/.
pub mod State
pub mod Sending
