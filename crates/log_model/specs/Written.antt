-- A log as a cabinet's firmware writes it: document 02, (iv), from what is recorded to bytes, and from a list of calls to what is recorded.
use Rattle.std.specs.Prelude.{Bool, cond, ◌&&◌, List, [], ◌∷◌, ◌++◌, map, ℕ, zero, suc, length, take, leb, eqb}
use Rattle.model.specs.declared.Block.{Block}
use Rattle.model.specs.declared.Service.{Service}
use Rattle.model.specs.Lists.{is_zero, concat, all}
use Rattle.model.specs.Bytes.{word}
use Rattle.model.specs.Layout.{block_size, reply_size, reply_ticket_at}
use Rattle.model.specs.Soundness.{zero_beyond}
use Rattle.model.specs.Questions.{first_no}
use Rattle.model.specs.Admission.{block_of}
use Rattle.model.specs.Formats.{format_questions, format_block}
use Rattle.model.specs.Calls.{Result, Call, opening, quoting, offering, quoting_format, offering_format, advancing}
use Rattle.model.specs.History.{History, starts_in}
use Rattle.model.specs.Runs.{Lent, Run, outcome, after_call}
use Rattle.text.specs.Ascii.{ascii}
use Rattle.text.specs.Decimal.{decimal}
use Rattle.text.specs.Parts.{line_feed}
use Rattle.log_model.specs.Limits.{most8, most16, most32}
use Rattle.log_model.specs.Lines.{Line, offered, advanced}

-- Document 02, (iv): "all single-spaced decimals without leading zeros, each line ended by a line feed"
abbrev pub field_bytes : ℕ → List ℕ
field_bytes value = ascii " " ++ decimal value

unfoldable pub line_bytes : List ℕ → List ℕ → List ℕ
line_bytes letter values = letter ++ concat (map field_bytes values)

-- Document 02, (iv): "first `N` and the station count, then a line `O` with due-in, N ranks, N costs, and the recorded number and ticket, or a line `T` with the
-- recorded ticket out"
abbrev pub stations_bytes : ℕ → List ℕ
stations_bytes n = line_bytes (ascii "N") (n ∷ [])

unfoldable pub call_bytes : Line → List ℕ
call_bytes (offered due_in ranks costs number ticket) = line_bytes (ascii "O") (due_in ∷ (ranks ++ (costs ++ (number ∷ ticket ∷ []))))
call_bytes (advanced ticket) = line_bytes (ascii "T") (ticket ∷ [])

unfoldable pub ended : List (List ℕ) → List ℕ
ended [] = []
ended (line ∷ later) = line ++ (line_feed ∷ ended later)

unfoldable pub written_log : ℕ → List Line → List ℕ
written_log n calls = ended (stations_bytes n ∷ map call_bytes calls)

-- A line can hold an order where each value fits its field, and nothing stands beyond N.
unfoldable pub can_hold : ℕ → Block → Bool
can_hold n b =
    leb b.due_in most32
    && all (λ rank. leb rank most8) b.ranks
    && all (λ cost. leb cost most16) b.costs
    && zero_beyond n b.ranks
    && zero_beyond n b.costs

-- An offer's line: the order, and the number and the ticket of its reply.
unfoldable pub offer_line : ℕ → Block → Result → Line
offer_line n b result = offered b.due_in (take n b.ranks) (take n b.costs) result.number (word result.reply reply_ticket_at)

-- The lines of a call, by what it gave: one of each offer that a line can hold, done or declined, and of each done advance; no other call changes the image.
-- An order by format stands as the block that it counts as.
abbrev pub offer_lines : Bool → ℕ → Block → Lent → Result → List Line
offer_lines whole n b lent result = cond (whole && can_hold n b && eqb (length lent.reply) reply_size) (offer_line n b result ∷ []) []

abbrev pub advance_lines : ℕ → Result → List Line
advance_lines zero result = advanced (word result.reply reply_ticket_at) ∷ []
advance_lines (suc other) result = []

abbrev pub lines_for : Call → ℕ → Lent → Result → List Line
lines_for (opening stations) n lent result = []
lines_for (quoting block) n lent result = []
lines_for (offering block) n lent result = offer_lines (eqb (length block) block_size) n (block_of block) lent result
lines_for (quoting_format f) n lent result = []
lines_for (offering_format f) n lent result = offer_lines (is_zero (first_no (format_questions n f.format f.sheet))) n (format_block n f) lent result
lines_for advancing n lent result = advance_lines result.number result

-- Those of a list of calls, in turn.
unfoldable pub lines_of_calls : Run → List Lent → List Line
lines_of_calls run [] = []
lines_of_calls run (lent ∷ later) =
    let result = outcome run lent in
    lines_for lent.call run.history.n lent result ++ lines_of_calls (after_call run lent) later

-- In the book: the entries of its stations during each tick of a list of calls, as the starts of each done advance leave them.
abbrev pub during_in : Call → ℕ → History → List (List Service)
during_in (opening n) number h = []
during_in (quoting block) number h = []
during_in (offering block) number h = []
during_in (quoting_format f) number h = []
during_in (offering_format f) number h = []
during_in advancing zero h = (starts_in h).services ∷ []
during_in advancing (suc other) h = []

unfoldable pub book_ticks : Run → List Lent → List (List Service)
book_ticks run [] = []
book_ticks run (lent ∷ later) =
    let result = outcome run lent in
    during_in lent.call result.number run.history ++ book_ticks (after_call run lent) later
