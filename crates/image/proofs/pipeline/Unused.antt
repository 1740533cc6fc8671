-- The default of an order, as its derive has it, is the record that is not in use.
use mathlib.Core.Path.{◌≡◌, sym, ◌∙◌}
use mathlib.Core.List.{List}
use Prim.Native.Nat.{ℕ}
use Rattle.std.specs.Array.{AllOfLen}
use Rattle.model.specs.declared.Order.{Order}
use Rattle.model.specs.Lists.{upward}
use Rattle.lists.proofs.Fills.{upward-same, upward_list}
use Rattle.image.specs.Pipeline.{eight_zeros, unused}

eight : (l : List ℕ) → AllOfLen (λ x. x ≡ 0) l 8 → l ≡ eight_zeros
unfolding upward
eight l h = sym (upward_list 0 l 8 h.long) ∙ upward-same 8 _ (λ i. 0) (λ i low. h.at i 0 low)

by_parts : {a b c d e : ℕ} {ranks costs maxima : List ℕ} → a ≡ 0 → b ≡ 0 → c ≡ 0 → d ≡ 0 → e ≡ 0 → ranks ≡ eight_zeros → costs ≡ eight_zeros → maxima ≡ eight_zeros → record { ticket = a; accepted = b; due = c; sum = d; station = e; ranks = ranks; costs = costs; maxima = maxima } ≡ unused
by_parts a b c d e r s t = cc

pub default_unused : {o : Order} → (o.ticket ≡ 0 × (o.accepted ≡ 0 × (o.due ≡ 0 × (o.sum ≡ 0 × (o.station ≡ 0 × (AllOfLen (λ x. x ≡ 0) o.ranks 8 × (AllOfLen (λ x. x ≡ 0) o.costs 8 × AllOfLen (λ x. x ≡ 0) o.maxima 8))))))) → o ≡ unused
default_unused {o} (t, (a, (d, (s, (k, (r, (c, m))))))) = by_parts t a d s k (eight o.ranks r) (eight o.costs c) (eight o.maxima m)
