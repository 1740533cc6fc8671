-- Uses of what is said of logs: what is printed, by the lines; a log written from a list of calls; what `same` says of a log; the last column; the reading in chunks.
use mathlib.Core.Path.{◌≡◌, refl, ◌∙◌}
use mathlib.Core.Logic.{◌⊎◌, inl, inr}
use mathlib.Core.Bool.{true, false}
use mathlib.Core.List.{List, [], ◌∷◌, ◌++◌, foldl}
use Prim.Native.Nat.{ℕ, zero, suc, ◌≤◌, ◌<◌}
use native.Mathlib.Omega.{arith}
use lib.ListN.{length, get_or, take, drop, replicate}
use lib.Dec.{ltb}
use borrow.Author.Tests.{eqb-false}
use Rattle.model.specs.Lists.{at, concat, all}
use Rattle.model.specs.Bytes.{word}
use Rattle.model.specs.State.{fresh}
use Rattle.model.specs.Layout.{reply_ticket_at}
use Rattle.model.specs.Image.{encode}
use Rattle.model.specs.Calls.{advance_call, perform}
use Rattle.model.specs.Runs.{started, outcome, after_call, after_all, AllAllowed}
use Rattle.model.specs.Table.{read_row}
use Rattle.model.specs.Cases.{order, X, Y}
use Rattle.model.specs.FormatCases.{sheet_of, by_format, two_stations}
use Rattle.image_laws.specs.InRange.{byte_limit}
use Rattle.text.specs.Ascii.{ascii}
use Rattle.text.specs.Parts.{lines}
use Rattle.log_model.specs.Limits.{most8, last_line}
use Rattle.log_model.specs.Lines.{Line, advanced, call_of, number_of, ticket_of}
use Rattle.log_model.specs.Rerun.{lent_reply, agrees}
use Rattle.log_model.specs.Output.{stations_in, calls_in, rerun_output}
use Rattle.log_model.specs.Reading.{fed_all, begun}
use Rattle.log_model.specs.Written.{line_bytes, call_bytes, ended, written_log, can_hold, offer_line, lines_of_calls, book_ticks}
use Rattle.log_laws.specs.Meaning.{AllOfBytes, Gives, forms, RerunsAsSame, Recorded, read_log}
use Rattle.log_model.specs.Cases.{is_rerun, is_share}
use Rattle.log_laws.proofs.Replies.{reply_makes_no_difference}
use Rattle.claims.proofs.Claims.{claims}
use Rattle.uses.specs.DefiniteLists.{some_image, some_reply, opened, mixed_calls, logged_calls, format_calls, all_stations, eight_format_calls, end_image}
use Rattle.uses.proofs.DefiniteLists.{mixed_allowed, formats_allowed, eight_formats_allowed}
use Rattle.uses.proofs.Words.{Figure, Bytes, all_bytes}

-- ---- what is printed, by the lines: at 8 stations a line of another form after one that disagrees; the same without it; the same without either
abbrev other_log : List ℕ
other_log = ascii "N 8\nT 0\nT 5\nX\n"

abbrev differing_log : List ℕ
differing_log = ascii "N 8\nT 0\nT 5\nT 0\n"

abbrev agreeing_log : List ℕ
agreeing_log = ascii "N 8\nT 0\n"

refused_4 : rerun_output other_log ≡ ascii "refused 21 4\n"
unfolding is_rerun
refused_4 = (claims.rerun_prints other_log).refused 4 (refl {a = false}) before
  where
    before : (j : ℕ) → j < 4 → at true (forms other_log) j ≡ true
    before zero h = refl {a = true}
    before (suc zero) h = refl {a = true}
    before (suc (suc zero)) h = refl {a = true}
    before (suc (suc (suc zero))) h = refl {a = true}
    before (suc (suc (suc (suc j)))) h = absurd (let w : ⊥ = omega arith in w)

-- Each line that gives what it records does so with any reply of 16 bytes.
gives : (image : List ℕ) (line : Line) → (perform (call_of line) image lent_reply).number ≡ number_of line → word (perform (call_of line) image lent_reply).reply reply_ticket_at ≡ ticket_of line → Gives image line
gives image line number ticket reply whole = rw (reply_makes_no_difference line image reply lent_reply whole refl) (number, ticket)

-- Each of the first so many lines has its form.
abbrev Formed : List ℕ → Type 0
Formed log = (k : ℕ) → at true (forms log) k ≡ true

differing_formed : Formed differing_log
unfolding is_rerun
differing_formed zero = refl {a = true}
differing_formed (suc zero) = refl {a = true}
differing_formed (suc (suc zero)) = refl {a = true}
differing_formed (suc (suc (suc zero))) = refl {a = true}
differing_formed (suc (suc (suc (suc zero)))) = refl {a = true}
differing_formed (suc (suc (suc (suc (suc k))))) = refl {a = true}

differs_3 : rerun_output differing_log ≡ ascii "differs 3\n"
unfolding is_rerun
differs_3 =
    (claims.rerun_prints differing_log).differs differing_formed (advanced 0 ∷ []) (advanced 0 ∷ []) (advanced 5) refl
    (gives (encode (fresh 8)) (advanced 0) refl refl, tt)
    (λ given. let w : ◌≡◌ {A = ℕ} 0 5 = (given lent_reply refl).1 in omega arith)

agreeing_formed : Formed agreeing_log
unfolding is_rerun
agreeing_formed zero = refl {a = true}
agreeing_formed (suc zero) = refl {a = true}
agreeing_formed (suc (suc zero)) = refl {a = true}
agreeing_formed (suc (suc (suc k))) = refl {a = true}

same_8 : rerun_output agreeing_log ≡ ascii "same\n1 0 0\n2 0 0\n3 0 0\n4 0 0\n5 0 0\n6 0 0\n7 0 0\n8 0 0\n"
unfolding is_rerun
same_8 = (claims.rerun_prints agreeing_log).same agreeing_formed (gives (encode (fresh 8)) (advanced 0) refl refl, tt)

-- ---- a log written from a list of calls, at 2 stations and at 8, with offers as blocks and by format; what is late, by no format, or is no offer has no line
block_bytes_lem : (block : List ℕ) → all (λ x. ltb x byte_limit) block ≡ true → (i : ℕ) → get_or block i 0 ≤ most8
block_bytes_lem block e i = let w = all_bytes block e i in omega arith

mixed_bytes : AllOfBytes mixed_calls
unfolding read_row mixed_calls X Y order
mixed_bytes = (block_bytes_lem (X 20 0) (refl {a = true}), (tt, (tt, (tt, (block_bytes_lem (Y 7 5) (refl {a = true}), (tt, (tt, (tt, (tt, (tt, (tt, (tt, tt))))))))))))

mixed_reruns : RerunsAsSame 2 (opened 2) mixed_calls
unfolding opened
mixed_reruns = claims.written_logs_rerun 2 (omega arith) (omega arith) some_image refl some_reply refl mixed_calls mixed_allowed mixed_bytes

abbrev mixed_log : List ℕ
mixed_log = ascii "N 2\nO 20 0 0 2 3 0 1\nO 7 5 5 1 2 0 2\nT 0\nT 0\nT 0\nT 0\nT 1\nT 0\nT 2\n"

mixed_figures : Figure 7 × (rerun_output mixed_log ≡ ascii "same\n1 3 429\n2 5 714\n")
unfolding is_rerun opened mixed_calls X Y order started after_call outcome after_all line_bytes call_bytes ended written_log can_hold offer_line lines_of_calls book_ticks
mixed_figures = (mixed_reruns.ticks, mixed_reruns.prints)

-- Declined offers have lines too; what a line cannot hold has none.
logged_bytes : AllOfBytes logged_calls
unfolding read_row logged_calls X Y order
logged_bytes = (
  block_bytes_lem (X 20 0) (refl {a = true}),
  (
    block_bytes_lem (Y 6 5) (refl {a = true}),
    (
      block_bytes_lem (order 20 0 (0 ∷ 1 ∷ [])) (refl {a = true}),
      (
        block_bytes_lem (Y 7 5) (refl {a = true}),
        (block_bytes_lem (take 27 (X 20 0)) (refl {a = true}), (block_bytes_lem (order 20 0 (1 ∷ 1 ∷ 1 ∷ [])) (refl {a = true}), (tt, (tt, tt)))),
      ),
    ),
  ),
)

logged_allowed : AllAllowed (opened 2) logged_calls
unfolding read_row opened logged_calls X Y order started after_call outcome
logged_allowed = (tt, (tt, (tt, (tt, (tt, (tt, (tt, (tt, tt))))))))

logged_reruns : RerunsAsSame 2 (opened 2) logged_calls
unfolding opened
logged_reruns = claims.written_logs_rerun 2 (omega arith) (omega arith) some_image refl some_reply refl logged_calls logged_allowed logged_bytes

logged_figures : Figure 1 × (rerun_output (ascii "N 2\nO 20 0 0 2 3 0 1\nO 6 5 5 1 2 11 0\nO 20 0 0 0 1 6 0\nT 0\n") ≡ ascii "same\n1 1 1000\n2 0 0\n")
unfolding is_rerun opened logged_calls X Y order started after_call outcome after_all line_bytes call_bytes ended written_log can_hold offer_line lines_of_calls book_ticks
logged_figures = (logged_reruns.ticks, logged_reruns.prints)

-- By format, as the blocks that the orders stand for.
formats_reruns : RerunsAsSame 2 (opened 2) format_calls
unfolding opened format_calls by_format
formats_reruns =
    claims.written_logs_rerun 2 (omega arith) (omega arith) some_image refl some_reply refl format_calls formats_allowed
    (omega arith, (omega arith, (tt, (omega arith, (tt, (tt, (tt, (tt, (tt, (tt, (tt, tt)))))))))))

formats_figures : Figure 7 × (rerun_output mixed_log ≡ ascii "same\n1 3 429\n2 5 714\n")
unfolding is_rerun opened format_calls by_format two_stations sheet_of started after_call outcome after_all line_bytes call_bytes ended written_log can_hold offer_line lines_of_calls book_ticks
formats_figures = (formats_reruns.ticks, formats_reruns.prints)

-- At 8 stations, a block and an order by format.
abbrev eight_log : List ℕ
eight_log =
    ascii "N 8\nO 9 0 0 0 0 0 0 0 0 1 1 1 1 1 1 1 1 0 1\nO 9 1 1 1 1 1 1 1 1 1 1 1 1 1 1 1 1 0 2\nT 0\nT 0\nT 0\nT 0\nT 0\nT 0\nT 0\nT 1\n"

abbrev eight_lines : List ℕ
eight_lines = ascii "same\n1 2 250\n2 2 250\n3 2 250\n4 2 250\n5 2 250\n6 2 250\n7 2 250\n8 1 125\n"

eight_formats_reruns : RerunsAsSame 8 (opened 8) eight_format_calls
unfolding opened eight_format_calls by_format order read_row
eight_formats_reruns =
    claims.written_logs_rerun 8 (omega arith) (omega arith) some_image refl some_reply refl eight_format_calls eight_formats_allowed
    (omega arith, (block_bytes_lem (order 9 1 (replicate 8 1)) (refl {a = true}), (tt, (tt, (tt, (tt, (tt, (tt, (tt, (tt, tt))))))))))

eight_figures : Figure 8 × (rerun_output eight_log ≡ eight_lines)
unfolding is_rerun opened eight_format_calls by_format all_stations sheet_of order started after_call outcome after_all line_bytes call_bytes ended written_log can_hold offer_line lines_of_calls book_ticks
eight_figures = (eight_formats_reruns.ticks, eight_formats_reruns.prints)

-- ---- what `same` says of a log: it is the one that is written of its stations and calls, and these give what is recorded, with any reply
mixed_recorded : Recorded mixed_log (stations_in mixed_log) (calls_in mixed_log)
unfolding is_rerun
mixed_recorded = claims.same_means mixed_log (ascii "1 3 429\n2 5 714\n") refl

mixed_said : (1 ≤ 2) × (2 ≤ 8) × Bytes mixed_log
unfolding is_rerun line_bytes call_bytes ended written_log
mixed_said = (mixed_recorded.n_low, mixed_recorded.n_high, mixed_recorded.is_log)

-- The numbers and tickets of both offers, and the tickets out of the first advance, the fifth and the last.
mixed_given : (Figure 0 × Figure 1) × (Figure 0 × Figure 2) × (Figure 0 × Figure 0) × (Figure 0 × Figure 1) × (Figure 0 × Figure 2)
unfolding is_rerun
mixed_given =
    let g = mixed_recorded.given in
    (g.0 some_reply refl, g.1.0 some_reply refl, g.1.1.0 some_reply refl, g.1.1.1.1.1.1.0 some_reply refl, g.1.1.1.1.1.1.1.1.0 some_reply refl)

-- At 8 stations.
eight_recorded : Recorded eight_log (stations_in eight_log) (calls_in eight_log)
unfolding is_rerun
eight_recorded = claims.same_means eight_log (drop 5 eight_lines) refl

eight_said : (1 ≤ 8) × (8 ≤ 8) × Bytes eight_log × (Figure 0 × Figure 1)
unfolding is_rerun line_bytes call_bytes ended written_log
eight_said = (eight_recorded.n_low, eight_recorded.n_high, eight_recorded.is_log, eight_recorded.given.0 some_reply refl)

-- ---- a declined advance: at the clock's end, with the ticket that its reply has
declined : agrees (advanced 0) (advance_call end_image lent_reply) ≡ false
unfolding read_row end_image
declined = claims.declined_disagrees end_image 0 (eqb-false 13 0 refl)

-- ---- the last column: 1 of 2,000 is half a thousandth, 2 of 3 are not
thousandths_2000 : ((4000 ≤ 4000) × (2000 < 6000)) × ((4002 ≤ 4003) × (4000 < 4005)) × Figure 0
unfolding is_share
thousandths_2000 =
    let t = claims.thousandths_mean in
    let half = t.to_nearest 1 2000 (omega arith) in
    let third = t.to_nearest 2 3 (omega arith) in
    ((half.not_above, half.not_below), (third.not_above, third.not_below), t.no_tick 7)

-- ---- in chunks: a line in three, one of them empty
chunked : foldl fed_all (record { reading = begun; image = some_image }) (ascii "N " ∷ [] ∷ ascii "1" ∷ ascii "\nT" ∷ []) ≡ fed_all (record { reading = begun; image = some_image }) (ascii "N 1\nT")
unfolding concat
chunked = claims.whatever_chunks (record { reading = begun; image = some_image }) (ascii "N " ∷ [] ∷ ascii "1" ∷ ascii "\nT" ∷ [])

-- ---- read byte by byte from any image: at 8 stations, and a line longer than is held
read_as : (log out : List ℕ) → rerun_output log ≡ out → length (lines log) < last_line → read_log some_image log ≡ out
read_as log out is few =
    elim (claims.reads_as_whole some_image refl log) [ inl same ↦ same ∙ is | inr none ↦ absurd (let w : ⊥ = omega (arith, none.1) in w) ]

read_8 : read_log some_image eight_log ≡ eight_lines
unfolding is_rerun
read_8 = read_as eight_log eight_lines refl (omega arith)

read_long : read_log some_image (ascii "N 1\nT 7\nT 1" ++ replicate 300 48 ++ ascii "\n") ≡ ascii "refused 21 3\n"
unfolding is_rerun
read_long = read_as (ascii "N 1\nT 7\nT 1" ++ replicate 300 48 ++ ascii "\n") (ascii "refused 21 3\n") refl (omega arith)

-- Of any log, also one with more lines than are counted: what the definition says, or nothing.
never_wrong : (log : List ℕ) → (read_log some_image log ≡ rerun_output log) ⊎ (read_log some_image log ≡ [])
never_wrong log = elim (claims.reads_as_whole some_image refl log) [ inl same ↦ inl same | inr none ↦ inr none.0 ]
