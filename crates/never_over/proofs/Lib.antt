-- The theorems that rest on what is promised (`Promised`): that it is kept by the steps of every index, and so by every
-- coefficient; that no request is refused for it. Callers go by these.
pub mod FivePrimes
pub mod NotOver
pub mod Heights
pub mod Delivered
pub mod Second
pub mod Never
