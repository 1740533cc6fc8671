-- Laws of offers.
pub mod FitLaws
pub mod PipelineLaws
pub mod TryLaws
pub mod OfferLaws
