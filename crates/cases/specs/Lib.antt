pub mod Cheaper
pub mod Worked
