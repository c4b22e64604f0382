-- What a reader must believe of a receiver and its pulses.
pub mod Arrivals
