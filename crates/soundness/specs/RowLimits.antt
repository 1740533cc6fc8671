-- The limits of a row, place by place.
use Rattle.std.specs.Prelude.{◌≡◌, cond, List, ℕ, ◌-◌, ◌≤◌, ltb}
use Rattle.model.specs.Limits.{max_stations, max_cost}
use Rattle.model.specs.Lists.{upward}

-- x at the first places of eight, and 0 at the others.
unfoldable pub first_places : ℕ → ℕ → List ℕ
first_places count x = upward 0 max_stations (λ k. cond (ltb k count) x 0)

-- Limits as they are for their own number of stations.
abbrev pub Made : ℕ → List ℕ → List ℕ → List ℕ → Type 0
Made n least most counted =
    (n ≤ max_stations) × (least ≡ first_places n 1) × (most ≡ first_places n max_cost) × (counted ≡ first_places (n - 1) 65535)
