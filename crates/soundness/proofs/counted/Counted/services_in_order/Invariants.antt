-- The stations so far, up to n, are idle or marked as served by a live record.
use Rattle.std.proofs.Common.{◌≡◌, ℕ, Bool, List, take}
use mathlib.Core.Bool.{◌||◌}
use Rattle.model.specs.declared.Order.{Order}
use Rattle.model.specs.declared.Service.{Service}
use Rattle.model.specs.Lists.{any, all_stations}
use Rattle.model.specs.Image.{orders_of}
use Rattle.model.specs.Soundness.{is_idle, serves}
use Rattle.soundness.proofs.counted.Counted.services_in_order.Given as goal

abbrev pub idle_or_served : List Order → ℕ → Service → Bool
idle_or_served orders k e = is_idle e || any (serves k e) orders

abbrev pub invariant-loop-k : goal.invariant-loop-k
invariant-loop-k l = l.holds ≡ all_stations (idle_or_served (orders_of l.self.image.now l.self.live)) (take l.self.n (take l.k l.e-items))
