-- Document 02, (iii), "Shorter default due time", in plain terms: to every call on an order, due-in 0 is the default written out.
use Rattle.std.specs.Prelude.{◌≡◌, List, ◌++◌, ℕ}
use Rattle.model.specs.Limits.{default_due_in}
use Rattle.model.specs.Bytes.{four_bytes}
use Rattle.model.specs.Formats.{FormatOrder}
use Rattle.model.specs.Calls.{quote_call, offer_call, quote_format_call, offer_format_call}

-- An order block by its first four bytes, the due-in, and those after them. And an order by format.
abbrev pub with_due_in : ℕ → List ℕ → List ℕ
with_due_in due_in rest = four_bytes due_in ++ rest

abbrev pub format_with_due_in : ℕ → FormatOrder → FormatOrder
format_with_due_in due_in f = record { format = f.format; due_in = due_in; rank = f.rank; sheet = f.sheet }

-- Document 02, (iii): "Due-in 0 is to stand for 9,000 ticks. Quote, offer and format orders follow." Number, image and reply are the same, for anything that is lent.
pub record StandsFor (image reply : List ℕ) : Type 0 where
  pub quotes : (rest : List ℕ) → quote_call image (with_due_in 0 rest) reply ≡ quote_call image (with_due_in default_due_in rest) reply
  pub offers : (rest : List ℕ) → offer_call image (with_due_in 0 rest) reply ≡ offer_call image (with_due_in default_due_in rest) reply
  pub format_quotes : (f : FormatOrder) → quote_format_call image (format_with_due_in 0 f) reply ≡ quote_format_call image (format_with_due_in default_due_in f) reply
  pub format_offers : (f : FormatOrder) → offer_format_call image (format_with_due_in 0 f) reply ≡ offer_format_call image (format_with_due_in default_due_in f) reply

abbrev pub ZeroStandsForDefault : Type 0
ZeroStandsForDefault = (image reply : List ℕ) → StandsFor image reply
