-- Laws of figures.
pub mod FigureLaws
