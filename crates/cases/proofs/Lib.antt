pub mod Candidates
pub mod Table
