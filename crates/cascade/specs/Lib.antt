-- What is told of the list, what the making of the product comes to, and lists that are the same but for their order.
pub mod Asked
pub mod Making
pub mod Reordered
