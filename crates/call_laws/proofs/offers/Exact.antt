-- What an offer returns and gives: the number by its questions, whose answers are facts; the tick and the margin from the reply's bytes.
use mathlib.Core.Path.{◌≡◌, refl, ap, ◌∙◌}
use mathlib.Core.Logic.{◌⊎◌, inl, inr}
use mathlib.Core.Bool.{Bool, true, not, ◌||◌}
use mathlib.Core.List.Memᴰ
use mathlib.Core.List.{List}
use Prim.Native.Nat.{ℕ, ◌<◌}
use lib.IntN.{pos, ◌-ℤ◌}
use lib.Signed.{mag, lt_z}
use Rattle.model.specs.declared.Block.{Block}
use Rattle.model.specs.declared.Order.{Order}
use Rattle.model.specs.Lists.{all, part}
use Rattle.model.specs.Bytes.{four_bytes, bits32}
use Rattle.model.specs.State.{State}
use Rattle.model.specs.DelayBound.{bound_tick, on_time, margin}
use Rattle.model.specs.Layout.{reply_tick_at, reply_margin_at}
use Rattle.model.specs.Image.{decode}
use Rattle.model.specs.Questions.{reply_bytes}
use Rattle.model.specs.Admission.{block_of, arrival, joined_by, joined_live, smallest_margin, offer_answer}
use Rattle.model.specs.Calls.{offer_number, offer_call, result}
use Rattle.lists.proofs.Signs.{near}
use Rattle.image_laws.specs.Iff.{◌⇔◌}
use Rattle.image_laws.specs.SoundFacts.{SoundState}
use Rattle.image_laws.proofs.Sound.{sound_gives}
use Rattle.call_laws.specs.Considered.{Fitting, Considered}
use Rattle.call_laws.specs.OfferExact.{bound_tick_of, Exact}
use Rattle.call_laws.proofs.offers.Questions.{Decided, both_pass, first_fails, second_fails, last, number_is, considered}
use Rattle.call_laws.proofs.offers.Times.{time_says, late_says, live_say, one_late}
use Rattle.call_laws.proofs.offers.Signs.{margin_sign, sign_smallest}
use Rattle.call_laws.proofs.offers.Margins.{smallest_margin_lem}
use Rattle.call_laws.proofs.offers.Bounds.{Near, arrival_near, joined_near}

module _ (image block reply : List ℕ) where
  tick_given : offer_number image block reply ≡ 0 → part (offer_call image block reply).reply reply_tick_at 4 ≡ four_bytes (bound_tick_of (decode image).n (arrival (decode image) (block_of block)))
  unfolding offer_call result reply_bytes offer_answer bound_tick
  tick_given e = rw e

  margin_given : Decided (offer_number image block reply) → part (offer_call image block reply).reply reply_margin_at 4 ≡ four_bytes (bits32 (smallest_margin (decode image) (block_of block)))
  unfolding offer_call result reply_bytes offer_answer
  margin_given (inl e) = rw e
  margin_given (inr (inl e)) = rw e
  margin_given (inr (inr e)) = rw e

smallest_sign : (s : State) (b : Block) → lt_z (smallest_margin s b) (pos 0) ≡ (not (on_time s.n (arrival s b)) || not (all (on_time s.n) (joined_live s b)))
unfolding smallest_margin
smallest_sign s b =
    sign_smallest s.n (margin s.n (arrival s b)) (joined_live s b)
    ∙ ap (λ (t : Bool). t || not (all (on_time s.n) (joined_live s b))) (margin_sign s.n (arrival s b))

-- The order that has the smallest margin is the arrival or a live order, and both lie near their due ticks.
pub margin_near : (s : State) (b : Block) → SoundState s → Fitting s b → mag (smallest_margin s b) < 2147483648
unfolding bound_tick joined_live
margin_near s b g f =
    let m = smallest_margin_lem s b in
    let near_due : (o : Order) → Near s b g f o → mag (pos o.due -ℤ pos (bound_tick_of s.n o)) < 2147483648 = λ o h. near o.due (bound_tick s.n o) h.1 h.2 in
    rw m.attained
    (elim (Memᴰ.cases_cons m.among) [
      | inl e ↦ rw e (near_due (arrival s b) (arrival_near s b g f))
      | inr q ↦ let w = Memᴰ.of_map (joined_by b) s.orders q in rw (← w.2) (near_due (joined_by b w.0) (joined_near s b g f w.0 w.1))
    ])

pub exact : Exact
exact image block reply =
    record {
      done =
          record {
            only = λ e. let t = (asked 0 (inl refl)).only e in let u = (both_pass own live).only t.1 in (t.0, (time_says s.n (arrival s b)).tells u.0, (live_say s b).tells u.1);
            if = λ t. (asked 0 (inl refl)).if (t.0, (both_pass own live).if ((time_says s.n (arrival s b)).passes t.1, (live_say s b).passes t.2));
          };
      late =
          record {
            only = λ e. let t = (asked 11 (inr (inl refl))).only e in (t.0, (late_says s.n (arrival s b)).only ((first_fails own live).only t.1));
            if = λ t. (asked 11 (inr (inl refl))).if (t.0, (first_fails own live).if ((late_says s.n (arrival s b)).if t.1));
          };
      delaying =
          record {
            only = λ e.
                let t = (asked 12 (inr (inr refl))).only e in
                let u = (second_fails own live).only t.1 in
                let w = (one_late s b).only u.1 in
                (t.0, (time_says s.n (arrival s b)).tells u.0, w.0, w.1, w.2);
            if = λ t. (asked 12 (inr (inr refl))).if (t.0, (second_fails own live).if ((time_says s.n (arrival s b)).passes t.1, (one_late s b).if (t.2, t.3, t.4)));
          };
      tick = tick_given image block reply;
      margin = λ decided.
          record {
            given = smallest_margin s b;
            smallest = smallest_margin_lem s b;
            written = margin_given image block reply decided;
            signed32 = λ bytes. let c = considered image block reply decided in margin_near s b (sound_gives image bytes c.usable.image_sound).facts c.fitting;
            to_spare = λ e. let u = (both_pass own live).only ((asked 0 (inl refl)).only e).1 in sign ∙ rw (u.0, u.1);
            too_late = too_late_lem;
          };
    }
  where
    asked : (n : ℕ) → Decided n → (offer_number image block reply ≡ n) ⇔ (Considered image block reply × (last image block reply ≡ n))
    asked = number_is image block reply

    s : State
    s = decode image

    b : Block
    b = block_of block

    own : Bool
    own = on_time s.n (arrival s b)

    live : Bool
    live = all (on_time s.n) (joined_live s b)

    -- The smallest margin is below zero where the arrival or a live order is late.
    sign : lt_z (smallest_margin s b) (pos 0) ≡ (not own || not live)
    sign = smallest_sign s b

    too_late_lem : (offer_number image block reply ≡ 11) ⊎ (offer_number image block reply ≡ 12) → lt_z (smallest_margin s b) (pos 0) ≡ true
    too_late_lem (inl e) = sign ∙ rw ((first_fails own live).only ((asked 11 (inr (inl refl))).only e).1)
    too_late_lem (inr e) = let u = (second_fails own live).only ((asked 12 (inr (inr refl))).only e).1 in sign ∙ rw (u.0, u.1)
