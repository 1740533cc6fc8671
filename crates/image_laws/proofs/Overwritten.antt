-- The image of a state of which a part is written anew. What is stored over the header, the entries or the records leaves the other parts.
use mathlib.Core.Path.{◌≡◌, refl, sym, ap, ◌∙◌}
use mathlib.Core.List.{List, [], ◌++◌, append_assoc}
use Prim.Native.Nat.{ℕ, ◌*◌}
use native.Mathlib.Omega.{arith}
use lib.ListN.{length, length-append}
use Rattle.model.specs.Limits.{max_live}
use Rattle.model.specs.Layout.{services_at, records_at, record_size}
use Rattle.model.specs.State.{State}
use Rattle.model.specs.Image.{encode}
use Rattle.lists.specs.Stored.{Stored}
use Rattle.lists.proofs.Stores.{stored_over}
use Rattle.image_laws.specs.InRange.{InRange}
use Rattle.image_laws.proofs.Written.{header, entries, records, spare, after_entries, front_length, encode-length}

-- The live records and the zeros after them.
abbrev pub rear : State → List ℕ
rear s = records s ++ spare s

pub header_over : (s : State) (r : List ℕ) {v m : List ℕ} → Stored (header s ++ (entries s ++ r)) 0 v m → length v ≡ services_at → m ≡ v ++ (entries s ++ r)
header_over s r w h = stored_over [] (header s) (entries s ++ r) w refl (sym h)

module _ (s : State) (f : InRange s) where
  pub rear_length : length (rear s) ≡ record_size * max_live
  rear_length =
      omega (arith, ap length (after_entries s), encode-length s f, length-append (header s ++ entries s) (rear s), front_length s f)

  -- The records, or the first of them.
  pub records_over : (y w : List ℕ) {v m : List ℕ} → rear s ≡ y ++ w → length y ≡ length v → Stored (encode s) records_at v m → m ≡ header s ++ (entries s ++ (v ++ w))
  records_over y w {v} {m} e h was =
      let st : Stored (header s ++ entries s ++ (y ++ w)) records_at v m = rw (after_entries s, e) at was in
      stored_over (header s ++ entries s) y w st (sym (front_length s f)) h ∙ append_assoc (header s) (entries s) (v ++ w)
