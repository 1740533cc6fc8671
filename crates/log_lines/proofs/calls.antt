-- What a line's call comes to.
pub mod CallLaws
