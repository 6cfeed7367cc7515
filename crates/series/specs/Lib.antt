-- Power series with whole coefficients: a commutative ring, its units, the maps z ↦ z^t and z ↦ -z, and polynomials
-- with degree and mirror.
pub mod Laws
pub mod Maps
pub mod Degree
pub mod AtOne
pub mod Mirror
