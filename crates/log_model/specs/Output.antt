-- Document 02, (iv): what the rerun prints for a log, from all its bytes.
use Rattle.std.specs.Prelude.{Bool, true, false, cond, ◌||◌, List, [], ◌∷◌, ◌++◌, map, ℕ, suc, length, get_or, drop}
use Rattle.model.specs.declared.Service.{Service}
use Rattle.model.specs.Lists.{is_zero, concat, numbered, upward}
use Rattle.text.specs.Ascii.{ascii}
use Rattle.text.specs.Decimal.{decimal}
use Rattle.text.specs.Parts.{line_feed, parts, last_of, lines}
use Rattle.log_model.specs.Lines.{Line, is_stations, stations_of, is_offer, is_advance, line_of}
use Rattle.log_model.specs.Rounding.{thousandths}
use Rattle.log_model.specs.Rerun.{differs_at, ticks_of, busy_ticks}

-- Whether each line has its form. Document 02, (iv): "the `N` line first; an empty log gets 21 at line 1": the first line is asked for where there is none.
unfoldable pub is_call : ℕ → List ℕ → Bool
is_call n line = is_offer n line || is_advance line

unfoldable pub formed : List (List ℕ) → List Bool
formed [] = false ∷ []
formed (first ∷ later) = is_stations first ∷ map (is_call (stations_of first)) later

-- Document 02, (iv): "each line ended by a line feed": what stands after the last line feed is a line of another form.
unfoldable pub unended : List ℕ → List Bool
unended [] = []
unended (b ∷ bs) = false ∷ []

-- Document 02, (iv): "the first such line anywhere in the log": the place of the first false, where the first place is k; 0 when there is none.
unfoldable pub first_false : ℕ → List Bool → ℕ
first_false k [] = 0
first_false k (true ∷ later) = first_false (suc k) later
first_false k (false ∷ later) = k

-- Document 02, (iv): "Lines count from 1"
unfoldable pub refused_at : List ℕ → ℕ
refused_at log = first_false 1 (formed (lines log) ++ unended (last_of (parts line_feed log)))

-- The station count and the calls of a log of the form.
unfoldable pub stations_in : List ℕ → ℕ
stations_in log = stations_of (get_or (lines log) 0 [])

unfoldable pub calls_in : List ℕ → List Line
calls_in log = map (line_of (stations_in log)) (drop 1 (lines log))

-- Document 02, (iv): "printed as `refused 21` and its line number in place of any result"
unfoldable pub refused_line : ℕ → List ℕ
refused_line k = ascii "refused 21 " ++ decimal k ++ ascii "\n"

-- Document 02, (iv): "or `differs` and the number of the first line that disagrees"
unfoldable pub differs_line : ℕ → List ℕ
differs_line k = ascii "differs " ++ decimal k ++ ascii "\n"

-- Document 02, (iv): "for each station one line: station, busy ticks, and busy ticks × 1,000 / all ticks"
unfoldable pub station_line : ℕ → ℕ → ℕ → List ℕ
station_line all k busy = decimal k ++ ascii " " ++ decimal busy ++ ascii " " ++ decimal (thousandths busy all) ++ ascii "\n"

-- Document 02, (iv): "prints `same`"; "After `same`, for each station one line"
unfoldable pub same_lines : ℕ → List ℕ → List ℕ
same_lines all busy = ascii "same\n" ++ concat (numbered (station_line all) 1 busy)

-- The busy ticks of stations 1 to n.
unfoldable pub busy_of : ℕ → List (List Service) → List ℕ
busy_of n ticks = upward 1 n (λ k. busy_ticks k ticks)

unfoldable pub result_of : ℕ → List Line → List ℕ
result_of n calls =
    let differs = differs_at n calls in
    let ticks = ticks_of n calls in
    cond (is_zero differs) (same_lines (length ticks) (busy_of n ticks)) (differs_line differs)

unfoldable pub rerun_output : List ℕ → List ℕ
rerun_output log =
    let refused = refused_at log in
    cond (is_zero refused) (result_of (stations_in log) (calls_in log)) (refused_line refused)
