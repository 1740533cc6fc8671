-- What all tasks but one add to R: of no row, of one more, and as R rises.
use mathlib.Core.Path.{◌≡◌, refl, sym, ap, ◌∙◌}
use mathlib.Core.Bool.{true}
use mathlib.Core.List.{List, [], ◌∷◌, ◌++◌, map, map-append}
use Prim.Native.Nat.{ℕ, zero, suc, ◌+◌, ◌-◌, ◌*◌, ◌≤◌, ◌<◌}
use native.Mathlib.Nat.{mul-le-mul_right}
use native.Mathlib.Numerals.{add-one}
use native.Mathlib.Omega.{arith}
use lib.ListN.{length, get_or, take, length-map}
use lib.Seq.{take-suc, length-take-le}
use Rattle.model.specs.Lists.{total, all}
use Rattle.lists.proofs.Tests.{and_both, total_snoc}
use Rattle.plan_model.specs.Limits.{max_period}
use Rattle.plan_model.specs.Response.{releases, others}
use Rattle.plan_model.proofs.Releases.{releases_most, releases_rise}
use Rattle.plan_model.proofs.Sequence.{Rises}
use Rattle.plan_model.proofs.Steps.{all_others, others_map}
use Rattle.plan_core.specs.declared.table.Row.{Row}
use Rattle.plan_core.specs.Ranged.{ranged}
use Rattle.plan_core.specs.Response.{share_of, interference_of, step_of}
use Rattle.plan_core.proofs.table.Rows.{ranges}

pub few_releases : (R d p : ℕ) → 1 ≤ d → d ≤ p → R < max_period → releases R d p ≤ max_period - 1
few_releases R d p low high r = releases_most R (max_period - 1) d p (omega arith) high (omega arith) (omega arith)

-- All but one, with one more at the end.
others_same : (l : List ℕ) (x t : ℕ) → length l ≡ t → others t (l ++ (x ∷ [])) ≡ others t l
unfolding others
others_same [] x zero e = refl
others_same [] x (suc t) e = absurd (let z : ⊥ = omega arith in z)
others_same (y ∷ l) x zero e = absurd (let z : ⊥ = omega arith in z)
others_same (y ∷ l) x (suc t) e = ap (λ (m : List ℕ). y ∷ m) (others_same l x t (omega arith))

others_more : (l : List ℕ) (x t : ℕ) → (length l ≡ t → ⊥) → others t (l ++ (x ∷ [])) ≡ others t l ++ (x ∷ [])
unfolding others
others_more [] x zero ne = absurd (ne refl)
others_more [] x (suc t) ne = refl
others_more (y ∷ l) x zero ne = refl
others_more (y ∷ l) x (suc t) ne = ap (λ (m : List ℕ). y ∷ m) (others_more l x t (λ e. ne (ap suc e)))

module _ (rows : List Row) (t : ℕ) where
  pub none_add : (R : ℕ) → 0 ≡ interference_of [] t R
  unfolding interference_of others total
  none_add R = refl

  -- The shares of the first rows, and one more.
  shares_next : (none : Row) (i R : ℕ) → i < length rows → map (share_of R) (take (i + 1) rows) ≡ map (share_of R) (take i rows) ++ (share_of R (get_or rows i none) ∷ [])
  shares_next none i R h = rw (add-one i, take-suc rows i none h) (map-append (share_of R) (take i rows) (get_or rows i none ∷ []))

  so_many : (i R : ℕ) → i < length rows → length (map (share_of R) (take i rows)) ≡ i
  so_many i R h = length-map (take i rows) (share_of R) ∙ length-take-le i rows (omega arith)

  pub own_adds : (none : Row) (i R : ℕ) → i < length rows → i ≡ t → interference_of (take (i + 1) rows) t R ≡ interference_of (take i rows) t R
  unfolding interference_of
  own_adds none i R h e =
      rw (shares_next none i R h, others_same (map (share_of R) (take i rows)) (share_of R (get_or rows i none)) t (so_many i R h ∙ e))

  pub other_adds : (none : Row) (i R : ℕ) → i < length rows → (i ≡ t → ⊥) → interference_of (take (i + 1) rows) t R ≡ interference_of (take i rows) t R + share_of R (get_or rows i none)
  unfolding interference_of
  other_adds none i R h ne =
      let so_far = map (share_of R) (take i rows) in
      rw (shares_next none i R h, others_more so_far (share_of R (get_or rows i none)) t (λ e. ne (sym (so_many i R h) ∙ e))) (total_snoc (others t so_far) (share_of R (get_or rows i none)))

-- No row in range adds less to a larger R.
share_rises : (r : Row) (R S : ℕ) → ranged r ≡ true → R ≤ S → share_of R r ≤ share_of S r
unfolding share_of
share_rises r R S e h =
    let in_range = ranges r e in
    mul-le-mul_right r.cost (releases_rise R S r.deadline r.period (omega arith) h)

shares_rise : (rows : List Row) (R S : ℕ) → all ranged rows ≡ true → R ≤ S → total (map (share_of R) rows) ≤ total (map (share_of S) rows)
unfolding all total
shares_rise [] R S e h = omega arith
shares_rise (r ∷ rows) R S e h =
    let both = and_both (ranged r) (all ranged rows) e in
    omega (arith, share_rises r R S both.0 h, shares_rise rows R S both.1 h)

pub step_rises : (rows : List Row) (t base : ℕ) → all ranged rows ≡ true → Rises (step_of rows t base)
unfolding step_of interference_of
step_rises rows t base e R S h =
    rw (← others_map (share_of R) t rows, ← others_map (share_of S) t rows) (let r : total (map (share_of R) (others t rows)) ≤ total (map (share_of S) (others t rows)) = shares_rise (others t rows) R S (all_others ranged t rows e) h in omega arith)

pub step_from : (rows : List Row) (t base R : ℕ) → base ≤ step_of rows t base R
unfolding step_of
step_from rows t base R = omega arith
