-- What a reader must believe of one receiver: what a feed does to it, under the name of src/; what is owed of it
-- (Delivery, ReadBack); and which states are sound.
pub mod Receiver
pub mod Delivery
pub mod ReadBack
pub mod Sound
