-- What a sound state gives the starts.
pub mod ServedLaws
