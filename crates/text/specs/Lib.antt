-- Text as bytes: words, numbers in decimal, and the lines and words of a text.
pub mod Ascii
pub mod Decimal
pub mod Number
pub mod Numbers
pub mod Parts
pub mod Printed
