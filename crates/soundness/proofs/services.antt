-- Laws of the marks.
pub mod Marks
