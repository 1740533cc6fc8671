-- The choice at a station: `first` gives an order that is there, if there is one, and none of those there goes before it.
-- Of `precedes` only `StrictTotalOrder` is used.
use mathlib.Core.Path.{◌≡◌, refl, sym, ap, subst, ◌∙◌}
use mathlib.Core.Logic.{◌⊎◌, inl, inr}
use mathlib.Core.Bool.{true, false, true≢false}
use mathlib.Core.List.Memᴰ
use mathlib.Core.List.{List, [], ◌∷◌}
use mathlib.Core.Option.{Option, none, some, some-injective, some-ne-none}
use Prim.Native.Nat.{ℕ}
use Rattle.model.specs.Tick.{View, precedes, better, first}
use Rattle.schedule.specs.Valid.{◌∈◌}
use Rattle.schedule.specs.Precedence.{StrictTotalOrder}
use Rattle.schedule.proofs.Laws.{EqCase, test, by_cond, eqb_cases}
use Rattle.schedule.proofs.Precedence.{precedes_in_order}

-- Whoever does not go before b does not go before a who goes before b.
not_before : {k : ℕ} → StrictTotalOrder k → (a b p : View) → precedes k a b ≡ true → precedes k p b ≡ false → precedes k p a ≡ false
not_before {k} order a b p goes not = elim (test (precedes k p a)) [ inl t ↦ absurd (true≢false (sym (order.transitive p a b t goes) ∙ not)) | inr t ↦ t ]

-- Of an order and the choice among the others, the better: neither goes before it, nor anyone who does not go before the choice.
better_self : {k : ℕ} → StrictTotalOrder k → (v : View) (x : Option View) → precedes k v (better k v x) ≡ false
unfolding better
better_self order v none = order.irreflexive v
better_self {k} order v (some q) = elim (test (precedes k v q)) [ inl t ↦ rw t (order.irreflexive v) | inr t ↦ rw t t ]

better_other : {k : ℕ} → StrictTotalOrder k → (v q p : View) → precedes k p q ≡ false → precedes k p (better k v (some q)) ≡ false
unfolding better
better_other {k} order v q p not = elim (test (precedes k v q)) [ inl t ↦ rw t (not_before order v q p t not) | inr t ↦ rw t not ]

-- What the choice is: there, and nobody there goes before it.
pub record Chosen (k : ℕ) (views : List View) (v : View) : Type 0 where
  pub live : v ∈ views
  pub here : v.station ≡ k
  pub unpreceded : (p : View) → p ∈ views → p.station ≡ k → precedes k p v ≡ false

-- one more order in front, at station k or not
chosen_front : (k : ℕ) → StrictTotalOrder k → (p : View) (vs : List View) (x : Option View) → p.station ≡ k → (x ≡ none → (q : View) → q ∈ vs → q.station ≡ k → ⊥) → ((v : View) → x ≡ some v → Chosen k vs v) → Chosen k (p ∷ vs) (better k p x)
unfolding better
chosen_front k order p vs none here nobody rest =
    record {
      live = Memᴰ.head refl;
      here = here;
      unpreceded = λ q m e. elim (Memᴰ.cases_cons m) [ inl r ↦ rw r (order.irreflexive p) | inr r ↦ absurd (nobody refl q r e) ];
    }
chosen_front k order p vs (some v) here nobody rest =
    let c = rest v refl in
    record {
      live = by_cond (λ (x : View). x ∈ (p ∷ vs)) (precedes k p v) (Memᴰ.head refl) (Memᴰ.tail c.live);
      here = by_cond (λ (x : View). x.station ≡ k) (precedes k p v) here c.here;
      unpreceded = λ q m e.
          elim (Memᴰ.cases_cons m) [
            | inl r ↦ rw r (better_self order p (some v))
            | inr r ↦ better_other order p v q (c.unpreceded q r e)
          ];
    }

chosen_skip : (k : ℕ) (p : View) (vs : List View) (v : View) → (p.station ≡ k → ⊥) → Chosen k vs v → Chosen k (p ∷ vs) v
chosen_skip k p vs v away c =
    record {
      live = Memᴰ.tail c.live;
      here = c.here;
      unpreceded = λ q m e. elim (Memᴰ.cases_cons m) [ inl r ↦ absurd (away (ap (λ (x : View). x.station) (sym r) ∙ e)) | inr r ↦ c.unpreceded q r e ];
    }

pub first_none : (k : ℕ) (views : List View) → first k views ≡ none → (v : View) → v ∈ views → v.station ≡ k → ⊥
unfolding first
first_none k [] e v m h = Memᴰ.not-nil m
first_none k (p ∷ vs) e v m h = go (λ r q. first_none k vs r v q h) (eqb_cases p.station k) (Memᴰ.cases_cons m)
  where
    go : (first k vs ≡ none → v ∈ vs → ⊥) → EqCase p.station k → (v ≡ p) ⊎ (v ∈ vs) → ⊥
    go ih (inl q) r = some-ne-none (better k p (first k vs)) (rw q.0 at e)
    go ih (inr q) (inl r) = q.1 (ap (λ (x : View). x.station) (sym r) ∙ h)
    go ih (inr q) (inr r) = ih (rw q.0 at e) r

pub first_some : (k : ℕ) (views : List View) (v : View) → first k views ≡ some v → Chosen k views v
unfolding first
first_some k [] v e = absurd (some-ne-none v (sym e))
first_some k (p ∷ vs) v e = go (λ q r. first_some k vs q r) (eqb_cases p.station k)
  where
    go : ((q : View) → first k vs ≡ some q → Chosen k vs q) → EqCase p.station k → Chosen k (p ∷ vs) v
    go ih (inl h) = subst (Chosen k (p ∷ vs)) (some-injective (better k p (first k vs)) v (rw h.0 at e)) (chosen_front k (precedes_in_order k) p vs (first k vs) h.1 (first_none k vs) ih)
    go ih (inr h) = chosen_skip k p vs v h.1 (ih v (rw h.0 at e))
