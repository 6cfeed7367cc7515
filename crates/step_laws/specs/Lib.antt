-- Laws of the steps (crate `definitions`), for whoever proves code that takes them.
pub mod Tests
pub mod Firsts
pub mod Outside
pub mod Accumulated
pub mod Chain
pub mod Step
pub mod Told
pub mod Signed
pub mod Machine
pub mod WorkingLimit
pub mod Bound
