pub mod Sizes
pub mod State
pub mod Trail
pub mod Refusals
pub mod Answers
pub mod Played
