-- What a step modulo 2^64 is, what the contracts of `wrapped_combs` and `wrapped_steps` cite, and laws that callers
-- use.
pub mod Wrapped
pub mod Laws
