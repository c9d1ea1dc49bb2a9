pub mod Powers
pub mod BytesLaws
pub mod ReadBack
