-- The code's state and the definitions' state, either way.
use mathlib.Core.Path.{◌≡◌, refl}
use mathlib.Core.List.{List}
use Prim.Native.Nat.{ℕ, ◌-◌}
use lib.ListN.{length, replicate}
use lib.Seq.{take_at}
use Rattle.model.specs.Limits.{max_live}
use Rattle.model.specs.State.{State}
use Rattle.model.specs.Layout.{record_part}
use Rattle.model.specs.Image.{live_count, order_of, decode}
use Rattle.lists.proofs.Fills.{length-upward}
use Rattle.image.specs.Pipeline.{unused, padded, listed}

pub listed_padded : (s : State) → listed (padded s) ≡ s
unfolding listed padded
listed_padded s = rw (take_at s.orders (replicate (max_live - length s.orders) unused) (length s.orders) refl)

pub live_decoded : (image : List ℕ) → (padded (decode image)).live ≡ live_count image
unfolding padded decode
live_decoded image = length-upward 0 (live_count image) (λ i. order_of (record_part image i))
