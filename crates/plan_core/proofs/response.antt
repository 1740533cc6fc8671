-- What replaces R.
pub mod StepLaws
