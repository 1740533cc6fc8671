-- What open comes to, by its questions.
use mathlib.Core.Path.{◌≡◌, refl, ◌∙◌}
use mathlib.Core.Bool.{Bool, true, false, true≢false, ◌||◌}
use mathlib.Core.List.{List}
use Prim.Native.Nat.{ℕ, ◌≤◌}
use native.Mathlib.Omega.{arith}
use lib.ListN.{length}
use lib.Dec.{ltb}
use borrow.Author.Tests.{eq-eqb, ne_eqb, ltb-false}
use Rattle.model.specs.Limits.{max_stations}
use Rattle.model.specs.State.{fresh}
use Rattle.model.specs.Layout.{image_size, reply_size}
use Rattle.model.specs.Image.{encode}
use Rattle.model.specs.Questions.{first_no, reply_bytes, zeros}
use Rattle.model.specs.Calls.{reply_question, length_question, open_number, open_call, result}
use Rattle.lists.proofs.Tests.{inside}
use Rattle.dispatcher.specs.Gives.{Gives}
use Rattle.dispatcher.proofs.replies.Declines.{declines, untouched, too_short}

-- Question 14 passes.
pub few : (n : ℕ) → (ltb n 1 || ltb max_stations n) ≡ false → n ≤ max_stations
few n e = ltb-false max_stations n (second (ltb n 1) (ltb max_stations n) e)
  where
    second : (a b : Bool) → (a || b) ≡ false → b ≡ false
    second false b e = e
    second true b e = absurd (true≢false e)

module _ (image : List ℕ) (n : ℕ) (reply : List ℕ) where
  pub open_untouched : (length reply ≡ reply_size → ⊥) → Gives (open_call image n reply) 1 image reply
  unfolding open_call open_number
  open_untouched short = untouched _ _ _ _ _ (too_short reply _ short)

  module _ (whole : length reply ≡ reply_size) where
    length_number : (length image ≡ image_size → ⊥) → open_number image n reply ≡ 2
    unfolding open_number first_no reply_question length_question
    length_number h = rw (eq-eqb (length reply) reply_size whole, ne_eqb (length image) image_size h)

    pub length_no : (length image ≡ image_size → ⊥) → Gives (open_call image n reply) 2 image (reply_bytes 2 zeros)
    unfolding open_call
    length_no h = rw (length_number h) (declines 2 _ image _ reply (λ e. omega arith) (λ e. omega arith) refl)

    module _ (long : length image ≡ image_size) where
      stations_number : (ltb n 1 || ltb max_stations n) ≡ true → open_number image n reply ≡ 14
      unfolding open_number first_no reply_question length_question
      stations_number o = rw (eq-eqb (length reply) reply_size whole, eq-eqb (length image) image_size long, inside 1 max_stations n o)

      pub stations_no : (ltb n 1 || ltb max_stations n) ≡ true → Gives (open_call image n reply) 14 image (reply_bytes 14 zeros)
      unfolding open_call
      stations_no o = rw (stations_number o) (declines 14 _ image _ reply (λ e. omega arith) (λ e. omega arith) refl)

      zero_number : (ltb n 1 || ltb max_stations n) ≡ false → open_number image n reply ≡ 0
      unfolding open_number first_no reply_question length_question
      zero_number o = rw (eq-eqb (length reply) reply_size whole, eq-eqb (length image) image_size long, inside 1 max_stations n o)

      pub done : (ltb n 1 || ltb max_stations n) ≡ false → Gives (open_call image n reply) 0 (encode (fresh n)) (reply_bytes 0 zeros)
      unfolding open_call result
      done o = rw (zero_number o) (record { number_is = refl; image_is = refl; reply_is = refl })
