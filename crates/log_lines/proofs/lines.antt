-- What a line that has ended comes to.
pub mod EndLaws
