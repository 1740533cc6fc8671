-- What a long run draws. One number of 32 bits, the seed, decides everything: which orders are tried is fixed for every run.
use Rattle.std.specs.Prelude.{ℕ, zero, suc, ◌+◌, ◌-◌, ◌*◌, ◌/◌, ◌%◌, cond, List, [], ◌∷◌, nat_lt}
use Rattle.model.specs.Limits.{max_stations}
use Rattle.model.specs.Lists.{upward}
use Rattle.model.specs.Admission.{block_bytes}

-- One step of the generator; so many steps; and a jump to another place of its cycle, so that the parts of an order are drawn apart from one another.
unfoldable pub stepped : ℕ → ℕ
stepped s = (s * 1664525 + 1013904223) % 4294967296

unfoldable pub after : ℕ → ℕ → ℕ
after zero s = s
after (suc k) s = stepped (after k s)

unfoldable pub apart : ℕ → ℕ
apart s = (s * 69069 + 1) % 4294967296

-- A number below k, by the high half of the seed.
unfoldable pub picked : ℕ → ℕ → ℕ
picked s k = s / 65536 % k

-- A cost from 1 to `most` for each of the first n stations, a step of the generator each, and 0 beyond them. Station k + 1 stands at place k.
unfoldable pub cost : ℕ → ℕ → ℕ → ℕ → ℕ
cost s n most k = cond (nat_lt k n) (1 + picked s most) 0

unfoldable pub costs : ℕ → ℕ → ℕ → List ℕ
costs s n most = upward 0 max_stations (λ k. cost (after (k + 1) s) n most k)

-- A rank from 0 to 3 for each of the first n stations, two bits of the seed's high half each, and 0 beyond them.
unfoldable pub rank : ℕ → ℕ → ℕ → ℕ → ℕ
rank s n k unit = cond (nat_lt k n) (s / unit % 4) 0

unfoldable pub ranks : ℕ → ℕ → List ℕ
ranks s n =
    rank s n 0 65536
    ∷ rank s n 1 262144
    ∷ rank s n 2 1048576
    ∷ rank s n 3 4194304
    ∷ rank s n 4 16777216
    ∷ rank s n 5 67108864
    ∷ rank s n 6 268435456
    ∷ rank s n 7 1073741824
    ∷ []

-- How large the costs of an order can be, by a number below 64: mostly small, and once in a while so large that one of 6,001 may be among them, which
-- question 6 declines.
unfoldable pub most_cost : ℕ → ℕ
most_cost v = cond (nat_lt v 40) 6 (cond (nat_lt v 60) 30 (cond (nat_lt v 63) 200 6001))

-- Due-ins, by a number below 8 and a seed: at the end of the range and beyond it, 0 for the usual one, short ones, and ones between.
unfoldable pub due_in : ℕ → ℕ → ℕ
due_in v s =
    cond (nat_lt v 1) (59994 + picked s 12) (cond (nat_lt v 3) 0 (cond (nat_lt v 4) (picked s 100) (picked s 3000)))

-- For how many stations costs and ranks are drawn, by a number below 24: mostly as many as there are, sometimes one less or one more, which question 6
-- declines, save one more than eight.
unfoldable pub drawn_for : ℕ → ℕ → ℕ
drawn_for v n = cond (nat_lt v 1) (n - 1) (cond (nat_lt v 2) (n + 1) n)

-- The order block that a seed draws for a cabinet of n stations.
unfoldable pub drawn_block : ℕ → ℕ → List ℕ
drawn_block s n =
    let a = stepped s in
    let b = stepped a in
    let c = stepped b in
    let stations = drawn_for (picked b 24) n in
    block_bytes (record { due_in = due_in (picked c 8) (apart s); ranks = ranks (apart b) stations; costs = costs (apart a) stations (most_cost (picked a 64)) })
