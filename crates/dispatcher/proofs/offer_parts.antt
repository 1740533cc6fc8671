-- Laws of the calls: of what is asked before the block, and of what is left then.
pub mod OfferLaws
pub mod TakenLaws
