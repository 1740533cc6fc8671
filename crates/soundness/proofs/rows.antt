-- Laws of rows.
pub mod RowLaws
