pub mod Order
pub mod Totals
pub mod Signs
