pub mod Tests
pub mod Rest
pub mod Job
pub mod Lent
pub mod Grouping
pub mod Cost
pub mod Refusals
pub mod Answers
