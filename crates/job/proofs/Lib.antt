pub mod Every
pub mod Rows
pub mod Walks
pub mod Told
pub mod Exact
