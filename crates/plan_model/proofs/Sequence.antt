-- The sequence of R for any step that does not fall: it rises until it ends, so that as many steps as the deadline reach an end.
use mathlib.Core.Path.{◌≡◌, refl, sym, ap, ◌∙◌}
use mathlib.Core.Bool.{Bool, true, false, ◌||◌, true≢false}
use mathlib.Core.Logic.{⊎_elim}
use Prim.Native.Nat.{ℕ, zero, suc, ◌+◌, ◌≤◌, ◌<◌}
use native.Mathlib.Nat.{le_refl, eq-or-lt_of_le}
use native.Mathlib.Omega.{arith}
use lib.Dec.{eqb, leb}
use borrow.Author.Tests.{le-leb, lt-leb, leb-true, leb-false, eq-eqb, ne_eqb, eqb-true, eqb-false}
use Rattle.lists.proofs.Tests.{either, both_false}
use Rattle.plan_model.specs.declared.Verdict.{Verdict}
use Rattle.plan_model.specs.declared.Verdict.TheVariants.{OnTime, Late}
use Rattle.plan_model.specs.Response.{ends, settled, response_from, verdict_where, verdict_of}
use Rattle.plan_model.specs.Meaning.{sequence, FirstEnd, LeastFixed, FirstPast}

-- A step that does not fall.
abbrev pub Rises : (ℕ → ℕ) → Type 0
Rises step = (R S : ℕ) → R ≤ S → step R ≤ step S

-- The two verdicts differ.
abbrev is_late : Verdict → Bool
is_late OnTime = false
is_late Late = true

unequal : Late ≡ OnTime → ⊥
unequal e = true≢false (ap is_late e)

less : (a b : ℕ) → a ≤ b → (a ≡ b → ⊥) → a < b
less a b h ne = ⊎_elim (λ e. absurd (ne e)) (λ l. l) (eq-or-lt_of_le h)

-- What a verdict says of R.
in_time : (deadline R : ℕ) → verdict_of deadline R ≡ OnTime → R < deadline
unfolding verdict_of
in_time deadline R v = leb-false deadline R (go (leb deadline R) v)
  where
    go : (b : Bool) → verdict_where b ≡ OnTime → b ≡ false
    go true e = absurd (let z : ⊥ = unequal e in z)
    go false e = refl

pub verdict_in_time : (deadline R : ℕ) → R < deadline → verdict_of deadline R ≡ OnTime
unfolding verdict_of
verdict_in_time deadline R h = rw (lt-leb deadline R h)

too_late_lem : (deadline R : ℕ) → verdict_of deadline R ≡ Late → deadline ≤ R
unfolding verdict_of
too_late_lem deadline R v = leb-true deadline R (go (leb deadline R) v)
  where
    go : (b : Bool) → verdict_where b ≡ Late → b ≡ true
    go true e = refl
    go false e = absurd (let z : ⊥ = unequal (sym e) in z)

module _ (step : ℕ → ℕ) (deadline : ℕ) where
  -- The two ways to end, and what is known where neither is taken.
  pub ends_past : (R : ℕ) → deadline ≤ R → ends step deadline R ≡ true
  unfolding ends
  ends_past R h = rw (le-leb deadline R h)

  pub ends_repeating : (R : ℕ) → step R ≡ R → ends step deadline R ≡ true
  unfolding ends
  ends_repeating R e = rw (eq-eqb (step R) R e) (go (leb deadline R))
    where
      go : (b : Bool) → (b || true) ≡ true
      go true = refl
      go false = refl

  pub goes_on : (R : ℕ) → R < deadline → (step R ≡ R → ⊥) → ends step deadline R ≡ false
  unfolding ends
  goes_on R h ne = rw (lt-leb deadline R h, ne_eqb (step R) R ne)

  pub not_ended : (R : ℕ) → ends step deadline R ≡ false → (R < deadline) × (step R ≡ R → ⊥)
  unfolding ends
  not_ended R e =
      let two = both_false (leb deadline R) (eqb (step R) R) e in
      (leb-false deadline R two.0, eqb-false (step R) R two.1)

  pub repeats : (R : ℕ) → ends step deadline R ≡ true → R < deadline → step R ≡ R
  unfolding ends
  repeats R e h = eqb-true (step R) R (rw (lt-leb deadline R h) at e)

  -- The settled R, one step on.
  pub settled_here : (k R : ℕ) → ends step deadline R ≡ true → settled step deadline k (ends step deadline R) R ≡ R
  unfolding settled
  settled_here zero R e = refl
  settled_here (suc k) R e = rw e

  pub settled_on : (k R : ℕ) → ends step deadline R ≡ false → settled step deadline (suc k) (ends step deadline R) R ≡ settled step deadline k (ends step deadline (step R)) (step R)
  unfolding settled
  settled_on k R e = rw e

  sequence_shift : (base j : ℕ) → sequence step (step base) j ≡ sequence step base (suc j)
  unfolding sequence
  sequence_shift base zero = refl
  sequence_shift base (suc j) = ap step (sequence_shift base j)

  -- The sequence that ends at its first R, and one that begins a step earlier.
  first_here : (R : ℕ) → ends step deadline R ≡ true → FirstEnd step deadline R R
  unfolding sequence
  first_here R e = record { place = zero; is = refl; ended = e; none_before = λ j h. absurd (let z : ⊥ = omega arith in z) }

  first_later : (R S : ℕ) → ends step deadline R ≡ false → FirstEnd step deadline (step R) S → FirstEnd step deadline R S
  unfolding sequence
  first_later R S e f =
      record {
        place = suc f.place;
        is = f.is ∙ sequence_shift R f.place;
        ended = f.ended;
        none_before = before;
      }
    where
      before : (j : ℕ) → j < suc f.place → ends step deadline (sequence step R j) ≡ false
      before zero h = e
      before (suc j) h = rw (sequence_shift R j) at (f.none_before j (omega arith))

  module _ (rises : Rises step) where
    -- As many steps as lead to the deadline are enough.
    settled_first : (k R : ℕ) → R ≤ step R → deadline ≤ R + k → FirstEnd step deadline R (settled step deadline k (ends step deadline R) R)
    settled_first zero R up enough =
        let e : ends step deadline R ≡ true = ends_past R (omega arith) in
        rw (settled_here zero R e) (first_here R e)
    settled_first (suc k) R up enough =
        either (λ b. ends step deadline R ≡ b → FirstEnd step deadline R (settled step deadline (suc k) (ends step deadline R) R)) (ends step deadline R)
        (λ t e. rw (settled_here (suc k) R e) (first_here R e))
        (λ t e.
        let more : (R < deadline) × (step R ≡ R → ⊥) = not_ended R e in
        let higher : R < step R = less R (step R) up (λ q. more.1 (sym q)) in
        rw (settled_on k R e) (first_later R _ e (settled_first k (step R) (rises R (step R) up) (omega arith))))
        refl

    pub response_first : (base : ℕ) → base ≤ step base → FirstEnd step deadline base (response_from step deadline base)
    unfolding response_from
    response_first base up = settled_first deadline base up (omega arith)

    -- No R of the sequence is above an x that the base is not above and a step from x is not; a fixed point is such an x. And none is below the base.
    pub under : (base x : ℕ) → base ≤ x → step x ≤ x → (j : ℕ) → sequence step base j ≤ x
    unfolding sequence
    under base x h e zero = h
    under base x h e (suc j) = omega (arith, rises (sequence step base j) x (under base x h e j), e)

    pub over : (base : ℕ) → ((R : ℕ) → base ≤ step R) → (j : ℕ) → base ≤ sequence step base j
    unfolding sequence
    over base from zero = le_refl base
    over base from (suc j) = from (sequence step base j)

    pub never_falls : (base : ℕ) → base ≤ step base → (j : ℕ) → sequence step base j ≤ sequence step base (suc j)
    unfolding sequence
    never_falls base up zero = up
    never_falls base up (suc j) = rises _ _ (never_falls base up j)

    pub on_time_means : (base R : ℕ) → ((R : ℕ) → base ≤ step R) → FirstEnd step deadline base R → verdict_of deadline R ≡ OnTime → LeastFixed step deadline base R
    on_time_means base R from f v =
        let below : R < deadline = in_time deadline R v in
        record {
          above = rw f.is (over base from f.place);
          below = below;
          fixed = repeats R f.ended below;
          least = λ x h e. rw f.is (under base x h (omega (arith, e)) f.place);
        }

    pub late_means : (base R : ℕ) → FirstEnd step deadline base R → verdict_of deadline R ≡ Late → FirstPast step deadline base R
    late_means base R f v =
        record {
          place = f.place;
          is = f.is;
          past = too_late_lem deadline R v;
          none_before = λ j h. (not_ended (sequence step base j) (f.none_before j h)).0;
        }

-- Two steps that agree settle alike.
ends_same : (f g : ℕ → ℕ) → ((R : ℕ) → f R ≡ g R) → (d R : ℕ) → ends f d R ≡ ends g d R
unfolding ends
ends_same f g same d R = rw (same R)

settled_same : (f g : ℕ → ℕ) → ((R : ℕ) → f R ≡ g R) → (d k : ℕ) (last : Bool) (R : ℕ) → settled f d k last R ≡ settled g d k last R
unfolding settled
settled_same f g same d zero last R = refl
settled_same f g same d (suc k) true R = refl
settled_same f g same d (suc k) false R =
    rw (same R, ends_same f g same d (g R)) (settled_same f g same d k (ends g d (g R)) (g R))

pub response_same : (f g : ℕ → ℕ) → ((R : ℕ) → f R ≡ g R) → (d b : ℕ) → response_from f d b ≡ response_from g d b
unfolding response_from
response_same f g same d b = rw (ends_same f g same d b) (settled_same f g same d d (ends g d b) b)

-- What a loop over the sequence keeps: from R on it settles at x, with steps enough left, and R does not fall.
pub record Stands (step : ℕ → ℕ) (deadline R x : ℕ) : Type 0 where
  pub up : R ≤ step R
  pub steps : ℕ
  pub comes : settled step deadline steps (ends step deadline R) R ≡ x
  pub enough : deadline ≤ R + steps

module _ (step : ℕ → ℕ) (deadline : ℕ) where
  pub stands_first : (base : ℕ) → base ≤ step base → Stands step deadline base (response_from step deadline base)
  unfolding response_from
  stands_first base up = record { up = up; steps = deadline; comes = refl; enough = omega arith }

  pub stands_past : (R x : ℕ) → deadline ≤ R → Stands step deadline R x → R ≡ x
  stands_past R x h s = sym (settled_here step deadline s.steps R (ends_past step deadline R h)) ∙ s.comes

  pub stands_repeating : (R x : ℕ) → step R ≡ R → Stands step deadline R x → R ≡ x
  stands_repeating R x e s = sym (settled_here step deadline s.steps R (ends_repeating step deadline R e)) ∙ s.comes

  pub stands_next : Rises step → (R x : ℕ) → R < deadline → (step R ≡ R → ⊥) → Stands step deadline R x → Stands step deadline (step R) x
  stands_next rises R x h ne s = go s.steps s.comes s.enough
    where
      go : (k : ℕ) → settled step deadline k (ends step deadline R) R ≡ x → deadline ≤ R + k → Stands step deadline (step R) x
      go zero e l = absurd (let z : ⊥ = omega arith in z)
      go (suc k) e l =
          let higher : R < step R = less R (step R) s.up (λ q. ne (sym q)) in
          record {
            up = rises R (step R) s.up;
            steps = k;
            comes = sym (settled_on step deadline k R (goes_on step deadline R h ne)) ∙ e;
            enough = omega arith;
          }
