-- Loops over the stations, and the entry of a station by its place.
use mathlib.Core.Path.{◌≡◌, ap, ◌∙◌}
use mathlib.Core.Bool.{cond}
use mathlib.Core.List.{List, ◌++◌, map}
use Prim.Native.Nat.{ℕ, zero, suc, ◌+◌, ◌-◌, ◌≤◌, ◌<◌}
use native.Mathlib.Omega.{arith}
use lib.ListN.{length, get_or, set, take, drop}
use Rattle.model.specs.declared.Service.{Service}
use Rattle.model.specs.Lists.{at, is_zero}
use Rattle.model.specs.State.{idle}
use Rattle.model.specs.Tick.{ticket_out}
use Rattle.lists.proofs.Fills.{replaced_read, replaced_next}

-- Station k is at place k - 1.
pub at_place : {A : Type 0} (d : A) (l : List A) (k : ℕ) → 1 ≤ k → at d l k ≡ get_or l (k - 1) d
at_place d l zero h = absurd (let z : ⊥ = omega arith in z)
at_place d l (suc k) h = let e : suc k - 1 ≡ k = omega arith in rw e

pub out_at_lem : (n : ℕ) (services : List Service) → 1 ≤ n → ticket_out n services ≡ cond (is_zero (get_or services (n - 1) idle).left) (get_or services (n - 1) idle).ticket 0
unfolding ticket_out
out_at_lem n services h = rw (at_place idle services n h)

-- An array whose entries are replaced in turn, each by f of what it was.
pub next_replaced : {A : Type 0} (f : A → A) (d : A) (l : List A) {m : List A} {i : ℕ} {v : A} → i < length l → m ≡ map f (take i l) ++ drop i l → v ≡ f (get_or m i d) → set m i v ≡ map f (take (i + 1) l) ++ drop (i + 1) l
next_replaced f d l {m} {i} {v} h e q = replaced_next f d l m i v h e (q ∙ ap f (rw e (replaced_read f d l i)))
