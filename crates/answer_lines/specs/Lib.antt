-- What is printed for an answer, and for a line that is not good.
pub mod Printed
