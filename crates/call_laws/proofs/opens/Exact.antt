-- What an open returns, gives and leaves: its three questions are tests with their own words, and the fresh state has a sound image.
use mathlib.Core.Path.{◌≡◌, refl}
use mathlib.Core.Logic.{◌≢◌}
use mathlib.Core.Bool.{Bool, true, false}
use mathlib.Core.List.Memᴰ
use mathlib.Core.List.{List, [], ◌∷◌}
use Prim.Native.Nat.{ℕ}
use native.Mathlib.Omega.{arith}
use lib.ListN.{length}
use lib.Dec.{eqb}
use borrow.Author.Tests.{ne_eqb}
use Rattle.model.specs.Limits.{max_stations}
use Rattle.model.specs.Lists.{within}
use Rattle.model.specs.State.{fresh}
use Rattle.model.specs.Layout.{image_size, reply_size}
use Rattle.model.specs.Image.{encode}
use Rattle.model.specs.Questions.{◌else◌, first_no, reply_bytes}
use Rattle.model.specs.Calls.{result, reply_question, length_question, open_number, open_call}
use Rattle.image_laws.specs.Iff.{◌⇔◌}
use Rattle.image_laws.specs.InRange.{ByteRanks}
use Rattle.image_laws.specs.SoundImage.{SoundImage}
use Rattle.image_laws.proofs.Tests.{eqb_says, within_says}
use Rattle.image_laws.proofs.Fresh.{fresh_sound}
use Rattle.image_laws.proofs.SoundImage.{sound_image}
use Rattle.call_laws.specs.OpenExact.{Openable, OpensFresh}

three_pass : (a b c : Bool) → (first_no ((a else 1) ∷ (b else 2) ∷ (c else 14) ∷ []) ≡ 0) ⇔ ((a ≡ true) × (b ≡ true) × (c ≡ true))
unfolding first_no
three_pass a b c = record { only = only a b c; if = λ t. rw (t.0, t.1, t.2) }
  where
    only : (a b c : Bool) → first_no ((a else 1) ∷ (b else 2) ∷ (c else 14) ∷ []) ≡ 0 → (a ≡ true) × (b ≡ true) × (c ≡ true)
    only true true true e = (refl, refl, refl)
    only true true false e = absurd (omega arith)
    only true false c e = absurd (omega arith)
    only false b c e = absurd (omega arith)

module _ (image : List ℕ) (n : ℕ) (reply : List ℕ) where
  pub open_done : (open_number image n reply ≡ 0) ⇔ Openable image n reply
  unfolding open_number reply_question length_question
  open_done =
      let asked = three_pass (eqb (length reply) reply_size) (eqb (length image) image_size) (within 1 max_stations n) in
      let stations = within_says 1 max_stations n in
      record {
        only = λ e.
            let t = asked.only e in
            let range = stations.tells t.2 in
            record { reply_whole = (eqb_says (length reply) reply_size).tells t.0; image_whole = (eqb_says (length image) image_size).tells t.1; n_low = range.0; n_high = range.1 };
        if = λ o. asked.if ((eqb_says (length reply) reply_size).passes o.reply_whole, (eqb_says (length image) image_size).passes o.image_whole, stations.passes (o.n_low, o.n_high));
      }

  module _ (done : open_number image n reply ≡ 0) where
    pub opened_image : (open_call image n reply).image ≡ encode (fresh n)
    unfolding open_call result
    opened_image = rw done

    no_ranks : ByteRanks (fresh n)
    unfolding fresh
    no_ranks o m = absurd (Memᴰ.not-nil m)

    left : SoundImage (open_call image n reply).image (fresh n)
    left =
        let o = open_done.only done in
        rw opened_image (sound_image (fresh n) (fresh_sound n o.n_low o.n_high).state no_ranks)

-- "Every decline leaves the image alone."
pub open_decline_leaves : (image : List ℕ) (n : ℕ) (reply : List ℕ) → open_number image n reply ≢ 0 → (open_call image n reply).image ≡ image
unfolding open_call result
open_decline_leaves image n reply other = rw (ne_eqb (open_number image n reply) 0 other)

pub opens_fresh : OpensFresh
unfolding open_call result reply_bytes
opens_fresh image n reply = record { done = open_done image n reply; given = λ e. rw e; left = left image n reply }
