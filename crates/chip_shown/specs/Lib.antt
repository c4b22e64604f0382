-- What a reader must believe of the status register and of ISR.
pub mod Shown
