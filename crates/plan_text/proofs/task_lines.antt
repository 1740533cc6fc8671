-- The lines of tasks: the numbers of one, and all of them in turn.
pub mod TaskLaws
pub mod TableLaws
