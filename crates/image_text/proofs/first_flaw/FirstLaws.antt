-- The counts come first: what each test of them says of the first clause that fails; and an image is sound where none does.
use mathlib.Core.Path.{◌≡◌, refl}
use mathlib.Core.Bool.{Bool, true, false, ◌||◌}
use mathlib.Core.List.{List, [], ◌∷◌}
use Prim.Native.Nat.{ℕ, ◌≤◌, ◌<◌}
use native.Mathlib.Omega.{arith}
use lib.ListN.{length}
use lib.Dec.{ltb}
use borrow.Author.Tests.{le-leb, lt-leb}
use Rattle.std.proofs.Common.{Some}
use Rattle.model.specs.Limits.{max_stations, max_live}
use Rattle.model.specs.Lists.{all}
use Rattle.model.specs.Bytes.{byte}
use Rattle.model.specs.Layout.{station_count_at}
use Rattle.model.specs.Image.{live_count}
use Rattle.model.specs.Soundness.{live_count_in_range, clauses, sound}
use Rattle.image_text.specs.declared.first_flaw.Flaw.{Flaw}
use Rattle.image_text.specs.declared.first_flaw.Flaw.TheVariants.{StationCount, LiveCount}
use Rattle.image_text.specs.FirstFlaw.{SoundIs, named, is_nothing, first_of, first_flaw, later_clauses, first_failing}
use Rattle.soundness.proofs.whole.CountLaws.{counted}

module _ (image : List ℕ) {n : ℕ} (is : n ≡ byte image station_count_at) where
  pub count_flaw : (ltb n 1 || ltb max_stations n) ≡ true → Some StationCount ≡ first_flaw image
  unfolding first_flaw clauses first_of
  count_flaw e = rw (counted image is e)

  pub live_flaw : (ltb n 1 || ltb max_stations n) ≡ false → max_live < live_count image → Some LiveCount ≡ first_flaw image
  unfolding first_flaw clauses first_of live_count_in_range
  live_flaw e h = rw (counted image is e, lt-leb (live_count image) max_live h)

  pub later_flaw : (ltb n 1 || ltb max_stations n) ≡ false → live_count image ≤ max_live → first_failing (later_clauses image) ≡ first_flaw image
  unfolding first_flaw clauses first_of live_count_in_range later_clauses
  later_flaw e h = rw (counted image is e, le-leb (live_count image) max_live h)

-- An image is sound where no clause fails.
none_first : (tests : List Bool) (names : List Flaw) → length tests ≤ length names → is_nothing (first_of tests names) ≡ all (λ t. t) tests
unfolding first_of all
none_first [] names h = refl
none_first (t ∷ tests) [] h = absurd (omega arith)
none_first (true ∷ tests) (name ∷ names) h = none_first tests names (omega arith)
none_first (false ∷ tests) (name ∷ names) h = refl

pub sound_is : SoundIs
unfolding first_flaw sound clauses all
sound_is image = none_first (clauses image) named (omega arith)
