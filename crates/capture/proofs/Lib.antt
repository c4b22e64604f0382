-- The laws of what is read and printed, and a file a function.
mod Laws
