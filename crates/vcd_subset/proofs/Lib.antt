-- Our reader takes these texts and no others: what is written is read, and what is read was written.
pub mod Wires
pub mod Header
pub mod Body
pub mod Takes
