-- One factor more: what the routine goes by.
pub mod Multiplying
pub mod Known
pub mod Mirroring
pub mod Delivered
pub mod Extending
