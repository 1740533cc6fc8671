-- The line that a program prints of a call: which call it was, and what its reply holds.
use Rattle.std.specs.Prelude.{ℕ, ◌-◌, cond, List, ◌++◌, nat_lt}
use Rattle.model.specs.Bytes.{word}
use Rattle.model.specs.Layout.{reply_ticket_at, reply_tick_at, reply_margin_at}
use Rattle.text.specs.Ascii.{ascii}
use Rattle.text.specs.Decimal.{decimal}
use Rattle.image_text.specs.Report.{line_feed, figure}

-- A signed number in decimal, by its 32 bits (two's complement).
unfoldable pub signed : ℕ → List ℕ
signed bits = cond (nat_lt bits 2147483648) (decimal bits) (ascii "-" ++ decimal (4294967296 - bits))

-- "The reply holds number (0 for done), ticket, tick, margin (signed), 4 bytes each": `offer: number 0 ticket 1 tick 5 margin 15`
unfoldable pub reply_figures : ℕ → ℕ → ℕ → List ℕ
reply_figures number ticket tick = figure ": number " number ++ figure " ticket " ticket ++ figure " tick " tick

unfoldable pub reply_margin : ℕ → List ℕ
reply_margin bits = ascii " margin " ++ signed bits

unfoldable pub reply_line : List ℕ → List ℕ → List ℕ
reply_line call reply =
    call
    ++ reply_figures (word reply 0) (word reply reply_ticket_at) (word reply reply_tick_at)
    ++ reply_margin (word reply reply_margin_at)
    ++ line_feed
