-- Wrong chips, each right but for one fault, and each shut out by a statement.
pub mod Chips
pub mod Laws
pub mod Counter
pub mod Modes
pub mod Received
pub mod Delivery
pub mod Fresh
pub mod Sending
pub mod ReadBack
pub mod Loopback
pub mod Cases
