-- The clauses of document 01's "Sound means" by name, and the first that fails.
use Rattle.std.specs.Prelude.{◌≡◌, Bool, true, false, Option, Some, None, List, [], ◌∷◌, map, ℕ}
use Rattle.model.specs.declared.Order.{Order}
use Rattle.model.specs.Lists.{all}
use Rattle.model.specs.DelayBound.{on_time}
use Rattle.model.specs.Image.{decode}
use Rattle.model.specs.Soundness.{clock_in_range, zero_bytes_zero, unused_records_zero, tickets_in_order, accepted_by_now, due_in_range, station_in_use, costs_in_range, maxima_in_range, sum_in_range, fields_beyond_zero, services_in_order, clauses, sound}
use Rattle.image_text.specs.declared.first_flaw.Flaw.{Flaw}
use Rattle.image_text.specs.declared.first_flaw.Flaw.TheVariants.{StationCount, LiveCount, Clock, ZeroBytes, UnusedRecords, Tickets, Acceptance, Due, Station, Costs, Maxima, Sum, OnTime, Beyond, Services}

-- The name of each clause, in document 01's order.
abbrev pub named : List Flaw
named =
    StationCount ∷ LiveCount ∷ Clock ∷ ZeroBytes ∷ UnusedRecords ∷ Tickets ∷ Acceptance ∷ Due ∷ Station ∷ Costs ∷ Maxima ∷ Sum ∷ OnTime ∷ Beyond ∷ Services ∷ []

-- The name of the first clause that fails, if one does.
unfoldable pub first_of : List Bool → List Flaw → Option Flaw
first_of [] names = None
first_of (test ∷ tests) [] = None
first_of (false ∷ tests) (name ∷ names) = Some name
first_of (true ∷ tests) (name ∷ names) = first_of tests names

-- Whether none fails.
abbrev pub is_nothing : Option Flaw → Bool
is_nothing None = true
is_nothing (Some flaw) = false

unfoldable pub first_flaw : List ℕ → Option Flaw
first_flaw image = first_of (clauses image) named

-- The clauses after the counts, each beside its name.
unfoldable pub later_clauses : List ℕ → List (Bool × Flaw)
later_clauses image =
    let s = decode image in
    (clock_in_range s, Clock)
    ∷ (zero_bytes_zero image, ZeroBytes)
    ∷ (unused_records_zero image, UnusedRecords)
    ∷ (tickets_in_order s, Tickets)
    ∷ (all (accepted_by_now s) s.orders, Acceptance)
    ∷ (all due_in_range s.orders, Due)
    ∷ (all (station_in_use s.n) s.orders, Station)
    ∷ (all (λ (o : Order). costs_in_range s.n o.costs) s.orders, Costs)
    ∷ (all (maxima_in_range s.n) s.orders, Maxima)
    ∷ (all sum_in_range s.orders, Sum)
    ∷ (all (on_time s.n) s.orders, OnTime)
    ∷ (fields_beyond_zero s, Beyond)
    ∷ (services_in_order s, Services)
    ∷ []

-- The first that fails of clauses with their names.
abbrev pub first_failing : List (Bool × Flaw) → Option Flaw
first_failing clauses = first_of (map (λ c. c.0) clauses) (map (λ c. c.1) clauses)

-- An image is sound exactly when no clause is the first that fails: what refuses an image and what explains the refusal cannot differ.
abbrev pub SoundIs : Type 0
SoundIs = (image : List ℕ) → is_nothing (first_flaw image) ≡ sound image
