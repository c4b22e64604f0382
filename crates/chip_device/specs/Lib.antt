-- What a reader must believe of the device.
pub mod Device
