-- What a reader must believe of soundness; the ranges themselves stand beside the types they speak of.
pub mod Soundness
