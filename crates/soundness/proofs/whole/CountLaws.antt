-- The counts come first: what each test of them says of soundness.
use mathlib.Core.Path.{◌≡◌, sym, ap, ◌∙◌}
use mathlib.Core.Bool.{Bool, true, false, not, ◌||◌}
use mathlib.Core.List.{List}
use Prim.Native.Nat.{ℕ}
use lib.Dec.{ltb}
use borrow.Author.Tests.{ltb-true, ltb-false, le-leb, lt-leb}
use Rattle.lists.proofs.Tests.{either, both_false, inside}
use Rattle.model.specs.Limits.{max_stations, max_live}
use Rattle.model.specs.Lists.{all}
use Rattle.model.specs.Bytes.{byte}
use Rattle.model.specs.Layout.{station_count_at}
use Rattle.model.specs.Image.{live_count, decode}
use Rattle.model.specs.Soundness.{station_count_in_range, live_count_in_range, clauses, sound}
use Rattle.soundness.specs.Whole.{later_hold}

module _ (image : List ℕ) {n : ℕ} (is : n ≡ byte image station_count_at) where
  pub counted : {outside : Bool} → (ltb n 1 || ltb max_stations n) ≡ outside → station_count_in_range (decode image) ≡ not outside
  unfolding station_count_in_range decode
  counted e = inside 1 max_stations (byte image station_count_at) (ap (λ (m : ℕ). ltb m 1 || ltb max_stations m) (sym is) ∙ e)

  -- The tests of the counts say whether the image is sound.
  pub counts_unsound : (ltb n 1 || ltb max_stations n || ltb max_live (live_count image)) ≡ true → sound image ≡ false
  unfolding sound clauses all live_count_in_range
  counts_unsound e =
      either (λ t. sound image ≡ false) (ltb n 1 || ltb max_stations n)
      (λ out. rw (counted out))
      (λ fine. rw (counted fine, lt-leb (live_count image) max_live (ltb-true max_live (live_count image) (rw fine at e))))

  pub later_sound : (ltb n 1 || ltb max_stations n || ltb max_live (live_count image)) ≡ false → later_hold image ≡ sound image
  unfolding sound clauses all live_count_in_range later_hold
  later_sound e =
      let f = both_false (ltb n 1 || ltb max_stations n) (ltb max_live (live_count image)) e in
      rw (counted f.0, le-leb (live_count image) max_live (ltb-false max_live (live_count image) f.1))
