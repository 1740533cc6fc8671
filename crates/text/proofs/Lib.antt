-- Laws that printers and readers share.
pub mod Decimals
pub mod Printing
pub mod Rows
pub mod PrintedRows
pub mod Values
pub mod Joined
