pub mod Figures
pub mod Columns
pub mod Arrays
pub mod Totals
