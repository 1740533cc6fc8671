-- The state that code carries, beside the definitions' own.
pub mod Pipeline
-- What is asked of a state that a step is taken from.
pub mod SoundPipeline
