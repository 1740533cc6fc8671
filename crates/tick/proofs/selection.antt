-- Laws of the candidates, with one order more.
pub mod CandidateLaws
