-- A log of any length, read byte by byte: what has been fed so far determines the state, which does not grow. What is printed of the state at the end is
-- what `Output` says of the whole log (`ReadsAsWhole` of the crate `log_laws`).
use Rattle.std.specs.Prelude.{Bool, cond, not, ◌||◌, List, [], ◌∷◌, ℕ, zero, suc, ◌+◌, set, take, replicate, ltb, eqb}
use Rattle.model.specs.declared.Order.{Order}
use Rattle.model.specs.Limits.{max_stations}
use Rattle.model.specs.Lists.{is_zero, any, upward}
use Rattle.model.specs.Image.{decode}
use Rattle.model.specs.Calls.{open_call, perform}
use Rattle.text.specs.Parts.{line_feed}
use Rattle.log_model.specs.declared.Reading.{Reading}
use Rattle.log_model.specs.declared.Rerun.{Rerun}
use Rattle.log_model.specs.Limits.{most32, max_line, last_line}
use Rattle.log_model.specs.Lines.{Line, offered, advanced, is_stations, stations_of, line_of, call_of}
use Rattle.log_model.specs.Rerun.{lent_reply, agrees}
use Rattle.log_model.specs.Output.{is_call, refused_line, differs_line, same_lines}

-- What the ended lines make of a log, and the image that their calls leave.
pub record Ran : Type 0 where
  pub rerun : Rerun
  pub image : List ℕ

-- The next line's number. Counting ends with the last number of 64 bits.
unfoldable pub next_line : ℕ → ℕ
next_line k = cond (ltb k last_line) (k + 1) 0

-- After a line of another form nothing is left to find, and so when lines are no longer counted. (No log has more stations than eight.)
unfoldable pub settled : Rerun → Bool
settled r = is_zero r.line || not (is_zero r.refused) || ltb max_stations r.stations

-- A line of another form; a line that is passed over.
unfoldable pub refused_here : Rerun → Rerun
refused_here r = record { line = r.line; stations = r.stations; refused = r.line; differs = r.differs; ticks = r.ticks; busy = r.busy }

unfoldable pub passed_by : Rerun → Rerun
passed_by r = record { line = next_line r.line; stations = r.stations; refused = r.refused; differs = r.differs; ticks = r.ticks; busy = r.busy }

-- The first line opens a cabinet.
unfoldable pub opened_with : ℕ → Rerun → Rerun
opened_with n r = record { line = next_line r.line; stations = n; refused = r.refused; differs = r.differs; ticks = r.ticks; busy = r.busy }

unfoldable pub first_line : Ran → List ℕ → Ran
first_line s line =
    let n = stations_of line in
    let opened : Ran = record { rerun = opened_with n s.rerun; image = (open_call s.image n lent_reply).image } in
    let refused : Ran = record { rerun = refused_here s.rerun; image = s.image } in
    cond (is_stations line) opened refused

-- A figure one higher; none is above 32 bits.
unfoldable pub one_more : ℕ → ℕ
one_more x = cond (ltb x most32) (x + 1) x

-- The stations where an order is, waiting or in service: those that are busy in the next tick.
unfoldable pub occupied : List Order → List Bool
occupied orders = upward 1 max_stations (λ k. any (λ o. eqb o.station k) orders)

unfoldable pub counted : List Bool → List ℕ → List ℕ
counted [] busy = busy
counted (b ∷ bs) [] = []
counted (b ∷ bs) (x ∷ busy) = cond b (one_more x) x ∷ counted bs busy

-- A done advance passes a tick.
unfoldable pub tick_passed : List Bool → Rerun → Rerun
tick_passed here r = record { line = r.line; stations = r.stations; refused = r.refused; differs = r.differs; ticks = one_more r.ticks; busy = counted here r.busy }

unfoldable pub after_line : Line → ℕ → List Bool → Rerun → Rerun
after_line (offered due_in ranks costs given ticket) number here r = r
after_line (advanced ticket) zero here r = tick_passed here r
after_line (advanced ticket) (suc other) here r = r

-- A line that disagrees is the first one: after it no call is made.
unfoldable pub compared_by : Bool → Rerun → Rerun
compared_by same r = record { line = next_line r.line; stations = r.stations; refused = r.refused; differs = cond same 0 r.line; ticks = r.ticks; busy = r.busy }

unfoldable pub ran_line : Ran → Line → Ran
ran_line s line =
    let result = perform (call_of line) s.image lent_reply in
    let here = occupied (decode s.image).orders in
    record { rerun = compared_by (agrees line result) (after_line line result.number here s.rerun); image = result.image }

unfoldable pub call_line : Ran → List ℕ → Ran
call_line s line =
    let n = s.rerun.stations in
    let passed : Ran = record { rerun = passed_by s.rerun; image = s.image } in
    let refused : Ran = record { rerun = refused_here s.rerun; image = s.image } in
    cond (is_call n line) (cond (is_zero s.rerun.differs) (ran_line s (line_of n line)) passed) refused

-- A line has ended.
unfoldable pub line_ended : Ran → List ℕ → Ran
line_ended s line = cond (settled s.rerun) s (cond (eqb s.rerun.line 1) (first_line s line) (call_line s line))

-- The state of the reading, and the image beside it.
pub record Fed : Type 0 where
  pub reading : Reading
  pub image : List ℕ

-- The line that has not ended yet.
unfoldable pub held_line : Reading → List ℕ
held_line r = take r.held r.pending

-- A byte of a line is held while there is room: a longer line has not the form, whatever follows.
unfoldable pub holding : Reading → ℕ → Reading
holding r b =
    let longer : Reading = record { rerun = r.rerun; pending = set r.pending r.held b; held = r.held + 1 } in
    cond (ltb r.held max_line) longer r

unfoldable pub fed_line_feed : Fed → Fed
fed_line_feed f =
    let s = line_ended (record { rerun = f.reading.rerun; image = f.image }) (held_line f.reading) in
    record { reading = record { rerun = s.rerun; pending = f.reading.pending; held = 0 }; image = s.image }

unfoldable pub fed_byte : Fed → ℕ → Fed
fed_byte f b = cond (eqb b line_feed) (fed_line_feed f) (record { reading = holding f.reading b; image = f.image })

unfoldable pub fed_all : Fed → List ℕ → Fed
fed_all f [] = f
fed_all f (b ∷ bs) = fed_all (fed_byte f b) bs

-- Before the first byte.
unfoldable pub begun : Reading
begun = record { rerun = record { line = 1; stations = 0; refused = 0; differs = 0; ticks = 0; busy = replicate max_stations 0 }; pending = replicate max_line 0; held = 0 }

-- At the end of the log: a line that has begun and has not ended is of another form, and so is the first one when there is none. When lines are no longer
-- counted nothing is printed.
unfoldable pub at_end : Rerun → List ℕ
at_end r = cond (is_zero r.differs) (same_lines r.ticks (take r.stations r.busy)) (differs_line r.differs)

unfoldable pub printed : Reading → List ℕ
printed r =
    let s = r.rerun in
    cond (not (is_zero s.refused)) (refused_line s.refused)
    (cond (is_zero s.line) []
    (cond (not (is_zero r.held) || eqb s.line 1) (refused_line s.line) (at_end s)))
