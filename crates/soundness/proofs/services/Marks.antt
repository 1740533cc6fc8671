-- The marks of served stations: none at first, and those of one order more, which are its own station's.
use mathlib.Core.Path.{◌≡◌, sym, ap, ◌∙◌}
use mathlib.Core.Bool.{Bool, true, false, ◌&&◌, ◌||◌, true≢false, and-eq-true_iff}
use mathlib.Core.List.{List, [], ◌∷◌, ◌++◌}
use Prim.Native.Nat.{ℕ, suc, ◌-◌, ◌≤◌, ◌<◌}
use native.Mathlib.Omega.{arith}
use lib.ListN.{length, get_or, set, replicate, length-set, get_or-replicate}
use lib.Seq.{get_or-set_same, get_or-set_other, set-get_or}
use lib.Dec.{leb, eqb}
use borrow.Author.Tests.{leb-true, le-leb, eqb-true, eqb-false, eq-eqb, ne_eqb}
use Rattle.model.specs.declared.Order.{Order}
use Rattle.model.specs.declared.Service.{Service}
use Rattle.model.specs.Lists.{at, within, any, numbered}
use Rattle.model.specs.State.{idle}
use Rattle.model.specs.Layout.{service_part}
use Rattle.model.specs.Image.{service_of, services_of}
use Rattle.model.specs.Soundness.{serves}
use Rattle.soundness.specs.Services.{served_by, marked_by}
use Rattle.lists.proofs.Fills.{length-upward, get_d_upward}
use Rattle.lists.proofs.Tests.{and_true, and_false, or-false, either, any_more, length-numbered, get_d_numbered, is_numbered_lem}

-- A station of the eight, and its place.
pub in_range_lem : (k : ℕ) → within 1 8 k ≡ true → (1 ≤ k) × (k ≤ 8)
in_range_lem k h = let both = (and-eq-true_iff (leb 1 k) (leb k 8)).0 h in (leb-true 1 k both.0, leb-true k 8 both.1)

pub place : (k : ℕ) → within 1 8 k ≡ true → k - 1 < 8
place k h = let range = in_range_lem k h in omega arith

-- The entries of an image, and the one at place k.
pub length_services : (image : List ℕ) → length (services_of image) ≡ 8
length_services image = length-upward 0 8 (λ i. service_of (service_part image i))

pub entry_is : (image : List ℕ) (k : ℕ) {e : Service} → k < 8 → e ≡ service_of (service_part image k) → e ≡ get_or (services_of image) k idle
entry_is image k h e = e ∙ sym (get_d_upward 8 (λ i. service_of (service_part image i)) k idle h)

module _ (services : List Service) (eight : length services ≡ 8) where
  pub served_none : replicate 8 false ≡ served_by services []
  unfolding served_by any
  served_none = is_numbered_lem (λ k e. any (serves k e) []) idle false services (replicate 8 false) (sym eight) (λ i h. get_or-replicate 8 i false false (omega arith))

  -- The mark of the station at place i.
  pub served_at_lem : (l : List Order) (i : ℕ) → i < 8 → get_or (served_by services l) i false ≡ any (serves (suc i) (get_or services i idle)) l
  unfolding served_by
  served_at_lem l i h = get_d_numbered (λ k e. any (serves k e) l) services i idle false (omega arith)

  pub served_more : (l : List Order) (o : Order) → marked_by services o (served_by services l) ≡ served_by services (l ++ (o ∷ []))
  unfolding served_by marked_by
  served_more l o =
      let mark : ℕ → Service → Bool = λ k e. at false (served_by services l) k || serves k e o in
      is_numbered_lem (λ k e. any (serves k e) (l ++ (o ∷ []))) idle false services (numbered mark 1 services) (length-numbered mark 1 services)
      (λ i h.
      get_d_numbered mark services i idle false h
      ∙ rw (served_at_lem l i (omega arith)) (sym (any_more (serves (suc i) (get_or services i idle)) l o)))

  module _ (marks : List Bool) (all-eight : length marks ≡ 8) (o : Order) where
    -- An order serves no entry of another station.
    elsewhere : (k : ℕ) (e : Service) → (o.station ≡ k → ⊥) → serves k e o ≡ false
    unfolding serves
    elsewhere k e h = rw (ne_eqb o.station k h, and_false)

    outside : within 1 8 o.station ≡ false → (k : ℕ) → 1 ≤ k → k ≤ 8 → o.station ≡ k → ⊥
    outside h k low high e =
        let t : within 1 8 k ≡ true = rw (le-leb 1 k low, le-leb k 8 high) in
        true≢false (sym t ∙ rw e at h)

    -- An order at none of the eight stations.
    pub marked_none : within 1 8 o.station ≡ false → marks ≡ marked_by services o marks
    unfolding marked_by
    marked_none h =
        is_numbered_lem (λ k e. at false marks k || serves k e o) idle false services marks (all-eight ∙ sym eight)
        (λ i g.
        rw (elsewhere (suc i) (get_or services i idle) (outside h (suc i) (omega arith) (omega arith)))
        (sym (or-false (get_or marks i false))))

    -- Whether the entry at place k has the order's ticket, and ticks to go from 1 to its cost there.
    abbrev fits : ℕ → Bool
    fits k = eqb o.ticket (get_or services k idle).ticket && within 1 (get_or o.costs k 0) (get_or services k idle).left

    -- At its own station that is the test.
    here : (i : ℕ) → eqb o.station (suc i) ≡ true → fits i ≡ serves (suc i) (get_or services i idle) o
    unfolding serves
    here i e = rw (e, and_true (eqb o.ticket (get_or services i idle).ticket))

    -- An order at one of them.
    marked_own : within 1 8 o.station ≡ true → set marks (o.station - 1) (get_or marks (o.station - 1) false || fits (o.station - 1)) ≡ marked_by services o marks
    unfolding marked_by
    marked_own h =
        let k = o.station - 1 in
        let v : Bool = get_or marks k false || fits k in
        let range = in_range_lem o.station h in
        is_numbered_lem (λ k e. at false marks k || serves k e o) idle false services (set marks k v) (length-set marks k v ∙ all-eight ∙ sym eight)
        (λ i g.
        either (λ _. get_or (set marks k v) i false ≡ (get_or marks i false || serves (suc i) (get_or services i idle) o)) (eqb o.station (suc i))
        (λ e.
        let own : o.station - 1 ≡ i = omega (arith, eqb-true o.station (suc i) e) in
        rw own (get_or-set_same marks i (get_or marks i false || fits i) false (omega arith) ∙ ap (λ t. get_or marks i false || t) (here i e)))
        (λ e.
        let away : o.station ≡ suc i → ⊥ = eqb-false o.station (suc i) e in
        get_or-set_other marks k i v false (λ j. away (omega arith))
        ∙ rw (elsewhere (suc i) (get_or services i idle) away) (sym (or-false (get_or marks i false)))))

    -- The same by what the entry at its station says of the ticket.
    pub marked_ticket : {e : Service} → e ≡ get_or services (o.station - 1) idle → within 1 8 o.station ≡ true → o.ticket ≡ e.ticket → set marks (o.station - 1) (get_or marks (o.station - 1) false || within 1 (get_or o.costs (o.station - 1) 0) e.left) ≡ marked_by services o marks
    marked_ticket {e} same h t =
        let k = o.station - 1 in
        let ours : eqb o.ticket (get_or services k idle).ticket ≡ true = eq-eqb o.ticket (get_or services k idle).ticket (t ∙ ap (λ (v : Service). v.ticket) same) in
        rw same (rw ours at (marked_own h))

    pub marked_other : {e : Service} → e ≡ get_or services (o.station - 1) idle → within 1 8 o.station ≡ true → (o.ticket ≡ e.ticket → ⊥) → marks ≡ marked_by services o marks
    marked_other {e} same h t =
        let k = o.station - 1 in
        let ours : eqb o.ticket (get_or services k idle).ticket ≡ false = ne_eqb o.ticket (get_or services k idle).ticket (λ z. t (z ∙ ap (λ (v : Service). v.ticket) (sym same))) in
        sym (set-get_or marks k false) ∙ rw (or-false (get_or marks k false)) at (rw ours at (marked_own h))
