-- Laws of the calls.
pub mod OpenLaws
