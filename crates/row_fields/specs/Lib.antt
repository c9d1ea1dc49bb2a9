pub mod FieldLaws
pub mod FieldReads
pub mod ReadLaws
pub mod FieldSteps
