-- What holds of every open.
pub mod OpenExact
-- What holds of every offer and quote.
pub mod Considered
pub mod OfferExact
pub mod OfferKept
pub mod DefaultDueIn
-- What holds of every offer and quote by paper format.
pub mod FormatExact
-- What holds of every advance.
pub mod AdvanceExact
pub mod AdvanceKept
