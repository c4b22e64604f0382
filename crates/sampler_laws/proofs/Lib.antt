-- The sampling rule, proved of the sampler; what meets its hypotheses; wrong samplers that it shuts out.
pub mod Laws
pub mod Sampling
pub mod Breaks
pub mod Enabling
pub mod Confirms
pub mod BreakChange
pub mod Only
pub mod Examples
pub mod Wrong
pub mod WrongStarts
