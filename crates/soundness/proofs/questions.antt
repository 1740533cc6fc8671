-- What the answers tell.
pub mod QuestionLaws
