-- The table of worked cases: what a row says, and the one test that reads rows in turn. Each call gets the image as the row before left it. The history
-- stands beside the image, kept from the calls and their numbers.
use Rattle.std.specs.Prelude.{Bool, true, false, cond, ◌&&◌, ◌||◌, List, [], ◌∷◌, ◌++◌, map, ℕ, suc, ◌+◌, length, take, drop, replicate, eqb}
use Rattle.std.proofs.Math.Option.{Option, none, some}
use Rattle.model.specs.declared.Order.{Order}
use Rattle.model.specs.declared.Service.{Service}
use Rattle.model.specs.Lists.{is_zero, part, rounded_up, total, largest, larger, concat, all, any, has, same, only, numbered, all_stations, upward}
use Rattle.model.specs.Bytes.{eight_bytes, eight_halves}
use Rattle.model.specs.State.{fresh}
use Rattle.model.specs.Tick.{key_at, before, precedes, better, first, entry_of, start_at, start_each, one_less, station_after, vacate, ticket_out, view, move_to, starts, tick, leave, advance, advance_out}
use Rattle.model.specs.DelayBound.{sum_of, maxima_of, delay_bound, bound_tick, on_time, margin}
use Rattle.model.specs.Layout.{image_size, reply_size}
use Rattle.model.specs.Image.{marked, service_of, service_bytes, order_of, order_bytes, decode, encode}
use Rattle.model.specs.Soundness.{station_count_in_range, live_count_in_range, clock_in_range, zero_bytes, zero_bytes_zero, unused_records_zero, rising, tickets_in_order, accepted_by_now, due_in_range, station_in_use, costs_in_range, maxima_in_range, sum_in_range, zero_beyond, record_zero_beyond, is_idle, fields_beyond_zero, serves, services_in_order, clauses, sound}
use Rattle.model.specs.Questions.{first_no, Answer, reply_bytes, zeros}
use Rattle.model.specs.Admission.{block_of, due_of, arrival, joined_by, joined_live, accept, smallest, smallest_margin, block_length_question, block_questions, state_questions, order_questions, offer_answer, quote_answer}
use Rattle.model.specs.Formats.{fixed_ticks, speeds, long_side, format_cost, up_to_station, format_block, format_questions, format_order_questions}
use Rattle.model.specs.Calls.{Result, result, reply_question, length_question, image_questions, open_number, open_call, offer_number, offer_call, quote_call, advance_number, advance_answer, format_number, offer_format_call, quote_format_call, advance_call, Call, opening, quoting, offering, quoting_format, offering_format, advancing, perform}
use Rattle.model.specs.History.{Entry, begun, is_none, live, live_orders, entry_due, members, entry_bound, entering, joins, accept_in, entry_view, starts_in, tick_in, leaves, leave_in, advance_in, feed}
use Rattle.model.specs.StateOf.{record_of, state_of}
use Rattle.model.specs.Runs.{Run}

pub data Row : Type 0 where
  -- Open is done. The history begins anew.
  opens : (n : ℕ) → Row
  -- A call with a reply of its length: its number, and what the reply holds beside it. After another number than 0, or a quote, the image is as it was.
  gives : (call : Call) (number : ℕ) (answer : Answer) → Row
  -- The same, with the reply as bytes.
  replies : (call : Call) (number : ℕ) (reply : List ℕ) → Row
  -- A call lent a reply and an image of so many bytes is declined by the number. After 1 the reply is as it was; after another number it holds that, and
  -- zeros. The image is as it was.
  ill_sized : (reply_length image_length : ℕ) (call : Call) (number : ℕ) → Row
  -- As `gives`, on a copy of the image with other bytes from a place on.
  altered : (place : ℕ) (bytes : List ℕ) (call : Call) (number : ℕ) (answer : Answer) → Row
  -- Somebody else writes bytes over the image, from a place on. The history knows nothing of it.
  written : (place : ℕ) (bytes : List ℕ) → Row
  -- The image's bytes from a place on.
  holding : (place : ℕ) (bytes : List ℕ) → Row
  -- In the image: the stations of the live orders; the tickets in service at stations 1 to N, and their ticks to go.
  stations : List ℕ → Row
  serving : (tickets left : List ℕ) → Row
  -- In the history, for every accepted order: the out tick, 0 while it is live; the acceptance tick + delay bound; the due tick.
  outs : List ℕ → Row
  bounds : List ℕ → Row
  dues : List ℕ → Row
  -- The image is the one that says what the history says: stations, clock and next ticket, and for each live order the sum and the maxima over its
  -- interference set.
  in_step : Row

-- A list with other entries from a place on.
unfoldable pub overwritten : List ℕ → ℕ → List ℕ → List ℕ
overwritten l place bytes = take place l ++ bytes ++ drop (place + length bytes) l

-- Whether a call that returned the number may have changed the image.
unfoldable pub may_change : Call → ℕ → Bool
may_change (opening n) number = is_zero number
may_change (quoting block) number = false
may_change (offering block) number = is_zero number
may_change (quoting_format f) number = false
may_change (offering_format f) number = is_zero number
may_change advancing number = is_zero number

unfoldable pub out_tick : Option ℕ → ℕ
out_tick none = 0
out_tick (some t) = t

-- Whether a call on an image gave the number and the reply, and left the image alone where it must.
unfoldable pub gave : Call → List ℕ → ℕ → List ℕ → Result → Bool
gave call image number reply r = eqb r.number number && same r.reply reply && (may_change call number || same r.image image)

-- The run after a done open, and after any other call, by what the call gave. These are `started` and `after_call`, which would make the call once more.
unfoldable pub opened : ℕ → Result → Run
opened n r = record { image = r.image; history = begun n }

unfoldable pub onward : Run → Call → Result → Run
onward run call r = record { image = r.image; history = feed call r.number run.history }

-- A reply buffer of so many bytes, with others in it than a call leaves there.
abbrev pub lent : ℕ → List ℕ
lent size = replicate size 238

-- Whether a row holds of a run, and the run after it.
pub record Read : Type 0 where
  pub holds : Bool
  pub run : Run

-- The long line names all that the calls compute with, so that a proof unfolds `Hold` alone.
unfoldable pub read_row : Run → Row → Read
unfolding overwritten may_change out_tick gave opened onward total largest larger concat all any has same only numbered all_stations upward eight_bytes eight_halves fresh key_at before precedes better first entry_of start_at start_each one_less station_after vacate ticket_out view move_to starts tick leave advance advance_out sum_of maxima_of delay_bound bound_tick on_time margin marked service_of service_bytes order_of order_bytes decode encode station_count_in_range live_count_in_range clock_in_range zero_bytes zero_bytes_zero unused_records_zero rising tickets_in_order accepted_by_now due_in_range station_in_use costs_in_range maxima_in_range sum_in_range zero_beyond record_zero_beyond is_idle fields_beyond_zero serves services_in_order clauses sound first_no reply_bytes block_of due_of arrival joined_by joined_live accept smallest smallest_margin block_length_question block_questions state_questions order_questions offer_answer quote_answer result reply_question length_question image_questions open_number open_call offer_number offer_call quote_call rounded_up fixed_ticks speeds long_side format_cost up_to_station format_block format_questions format_order_questions format_number offer_format_call quote_format_call advance_number advance_answer advance_call perform begun is_none live live_orders entry_due members entry_bound entering joins accept_in entry_view starts_in tick_in leaves leave_in advance_in feed record_of state_of
read_row run (opens n) =
    let r = perform (opening n) run.image (lent reply_size) in
    record { holds = gave (opening n) run.image 0 (reply_bytes 0 zeros) r; run = opened n r }
read_row run (gives call number answer) =
    let r = perform call run.image (lent reply_size) in
    record { holds = gave call run.image number (reply_bytes number answer) r; run = onward run call r }
read_row run (replies call number reply) =
    let r = perform call run.image (lent reply_size) in
    record { holds = gave call run.image number reply r; run = onward run call r }
read_row run (ill_sized reply_length image_length call number) =
    let image = take image_length (run.image ++ (0 ∷ [])) in
    let reply = cond (eqb number 1) (lent reply_length) (reply_bytes number zeros) in
    let r = perform call image (lent reply_length) in
    record { holds = eqb r.number number && same r.reply reply && same r.image image; run = run }
read_row run (altered place bytes call number answer) =
    let image = overwritten run.image place bytes in
    record { holds = gave call image number (reply_bytes number answer) (perform call image (lent reply_size)); run = run }
read_row run (written place bytes) = record { holds = true; run = record { image = overwritten run.image place bytes; history = run.history } }
read_row run (holding place bytes) = record { holds = same (part run.image place (length bytes)) bytes; run = run }
read_row run (stations expected) = record { holds = same (map (λ (o : Order). o.station) (decode run.image).orders) expected; run = run }
read_row run (serving tickets left) =
    let s = decode run.image in
    let entries = take s.n s.services in
    record { holds = same (map (λ (e : Service). e.ticket) entries) tickets && same (map (λ (e : Service). e.left) entries) left; run = run }
read_row run (outs expected) = record { holds = same (map (λ (e : Entry). out_tick e.out) run.history.orders) expected; run = run }
read_row run (bounds expected) = record { holds = same (map (entry_bound run.history) run.history.orders) expected; run = run }
read_row run (dues expected) = record { holds = same (map entry_due run.history.orders) expected; run = run }
read_row run in_step = record { holds = same run.image (encode (state_of run.history)); run = run }

-- A test that is passed, with its number: where the prover refuses a table, it names the row.
pub data Held : ℕ → Bool → Type 0 where
  held : (k : ℕ) → Held k true

-- The rows hold, read in turn from a run on; the first has the number k.
unfoldable pub HoldFrom : ℕ → Run → List Row → Type 0
unfolding read_row
HoldFrom k run [] = Unit {0}
HoldFrom k run (row ∷ rows) = let read = read_row run row in Held k read.holds × HoldFrom (suc k) read.run rows

-- From a buffer of an image's length that no call has written yet.
unfoldable pub Hold : List Row → Type 0
unfolding HoldFrom
Hold rows = HoldFrom 1 (record { image = replicate image_size 165; history = begun 0 }) rows

-- Of a table of cases, every row of every case.
abbrev pub AllHold : List (List Row) → Type 0
AllHold [] = Unit {0}
AllHold (rows ∷ cases) = Hold rows × AllHold cases

-- Each entry of a list passes a test; the first has the number k.
abbrev pub EachFrom : {A : Type 0} → (A → Bool) → ℕ → List A → Type 0
EachFrom test k [] = Unit {0}
EachFrom test k (x ∷ xs) = Held k (test x) × EachFrom test (suc k) xs
