-- The customer's three demands, each under the customer's own sentence, and document 01's eleven cases. Each statement
-- takes the chip it speaks of, and looks at answers alone, so that it can be shown false of a wrong one.
pub mod Chip
pub mod Told
pub mod Clocks
pub mod Reached
pub mod Demand1
pub mod Numbers
pub mod Registers
pub mod Counter
pub mod Counted
pub mod Pulses
pub mod Sending
pub mod Delivery
pub mod Fresh
pub mod Received
pub mod Starts
pub mod ReadBack
pub mod Loops
pub mod Echoing
pub mod Cases
