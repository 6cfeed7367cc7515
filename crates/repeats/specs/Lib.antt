-- Values that come again, and entries that are summed up from them.
pub mod Repeats
