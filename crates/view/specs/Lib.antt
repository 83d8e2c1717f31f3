pub mod View
pub mod Good
pub mod Steps
pub mod Play
pub mod Reached
pub mod Remaining
pub mod Triples
pub mod Law
