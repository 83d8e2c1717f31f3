pub mod Flags
pub mod Views
pub mod Back
pub mod Written
pub mod Told
pub mod Filled
pub mod Loaded
pub mod Runs
