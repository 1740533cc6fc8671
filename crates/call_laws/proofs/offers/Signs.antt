-- An order is on time exactly when its margin is not below zero, and all of them exactly when the smallest margin is not.
use mathlib.Core.Path.{◌≡◌, refl, sym, ap, ◌∙◌}
use mathlib.Core.Bool.{Bool, true, false, not, ◌&&◌, ◌||◌}
use mathlib.Core.List.{List, [], ◌∷◌, map}
use Prim.Native.Nat.{ℕ}
use lib.IntN.{ℤ, pos}
use lib.Signed.{lt_z}
use Rattle.model.specs.declared.Order.{Order}
use Rattle.model.specs.Lists.{all}
use Rattle.model.specs.DelayBound.{bound_tick, on_time, margin}
use Rattle.model.specs.Admission.{smallest}
use Rattle.lists.proofs.Tests.{or-false}
use Rattle.lists.proofs.Signs.{below_zero, sign_least}

pub margin_sign : (n : ℕ) (o : Order) → lt_z (margin n o) (pos 0) ≡ not (on_time n o)
unfolding margin on_time
margin_sign n o = below_zero o.due (bound_tick n o)

not_and : (a b : Bool) → not (a && b) ≡ (not a || not b)
not_and true b = refl
not_and false b = refl

pub sign_smallest : (n : ℕ) (a : ℤ) (l : List Order) → lt_z (smallest a (map (margin n) l)) (pos 0) ≡ (lt_z a (pos 0) || not (all (on_time n) l))
unfolding smallest all
sign_smallest n a [] = sym (or-false (lt_z a (pos 0)))
sign_smallest n a (o ∷ l) = sign_least a (smallest (margin n o) (map (margin n) l)) ∙ ap (λ (t : Bool). lt_z a (pos 0) || t) (sign_smallest n (margin n o) l ∙ (ap (λ (t : Bool). t || not (all (on_time n) l)) (margin_sign n o) ∙ sym (not_and (on_time n o) (all (on_time n) l))))
