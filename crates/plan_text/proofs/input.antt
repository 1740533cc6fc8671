-- What the first line says, and what the answer tells.
pub mod InputLaws
pub mod AnswerLaws
