-- What the contracts say that `log_model` does not: what some bytes more lead to; the lines of the stations, as they are printed.
pub mod Reached
pub mod Printed
