-- What a reader must believe of a sampler's state and of a character put together: a file a topic, under the names of
-- src/.
pub mod Assembly
pub mod State
