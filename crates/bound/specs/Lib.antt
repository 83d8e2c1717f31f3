pub mod Lawful
pub mod Layers
pub mod Stacked
pub mod Least
