pub mod Due
pub mod DueLaws
pub mod Sums
pub mod Passing
pub mod Minimums
