-- Laws of the accepted state.
pub mod AcceptLaws
