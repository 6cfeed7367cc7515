-- What is known of a product, and what one factor more makes of it.
pub mod Times
pub mod Taking
