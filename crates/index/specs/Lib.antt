-- n taken apart.
pub mod Parts
