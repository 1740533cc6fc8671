-- Laws of the probes' definitions.
pub mod RecodeLaws
