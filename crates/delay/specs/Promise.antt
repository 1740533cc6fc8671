-- The bound by the delay bound: everybody is favoured, the figure of a live order is its acceptance tick and its stored sum, and its stored maxima cover.
use Rattle.std.specs.Prelude.{Bool, true, ℕ, ◌+◌}
use Rattle.model.specs.declared.Order.{Order}
use Rattle.model.specs.Lists.{at}
use Rattle.model.specs.State.{State}
use Rattle.delay.specs.Bound.{Bounded}

abbrev pub everybody : Order → Bool
everybody o = true

abbrev pub accepted_sum : Order → ℕ
accepted_sum o = o.accepted + o.sum

abbrev pub maximum_at : Order → ℕ → ℕ
maximum_at o k = at 0 o.maxima k

abbrev pub nothing : Order → ℕ → ℕ
nothing o k = 0

abbrev pub Promise : State → Type 0
Promise s = Bounded everybody accepted_sum maximum_at nothing s
