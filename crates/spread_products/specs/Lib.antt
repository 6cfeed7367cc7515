-- What the contracts of `spread_products` cite: a slice to which a series was added, one that holds a product, and a
-- division by z^m - 1, all modulo 2^64.
pub mod Rows
pub mod Quotients
