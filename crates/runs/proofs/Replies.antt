-- The numbers of a reply, read back from its bytes.
use mathlib.Core.Path.{◌≡◌, refl}
use mathlib.Core.List.{List}
use Prim.Native.Nat.{ℕ, zero, suc, ◌+◌, ◌<◌}
use native.Mathlib.Omega.{arith}
use lib.IntN.{pos}
use Rattle.model.specs.Bytes.{word}
use Rattle.model.specs.State.{State}
use Rattle.model.specs.Tick.{advance_out}
use Rattle.model.specs.Layout.{reply_ticket_at, reply_tick_at}
use Rattle.model.specs.Image.{decode}
use Rattle.model.specs.Questions.{Answer, reply_bytes}
use Rattle.model.specs.Calls.{result, advance_number, advance_answer, advance_call}
use Rattle.schedule.proofs.Out.{ticket_out_as_asked}
use Rattle.image_laws.specs.InRange.{word_limit}
use Rattle.image_laws.specs.SoundFacts.{SoundInRange}
use Rattle.image_laws.proofs.Numbers.{word_of_four}
use Rattle.image_laws.proofs.Sound.{sound_valid}

-- The second and the third number of a reply.
pub reply_ticket : (number : ℕ) (a : Answer) → a.ticket < word_limit → word (reply_bytes number a) reply_ticket_at ≡ a.ticket
unfolding reply_bytes
reply_ticket number a h = word_of_four a.ticket h

pub reply_tick : (number : ℕ) (a : Answer) → a.tick < word_limit → word (reply_bytes number a) reply_tick_at ≡ a.tick
unfolding reply_bytes
reply_tick number a h = word_of_four a.tick h

-- The ticket out is 0 or that of a live order.
out_fits : (s : State) → SoundInRange s → advance_out s < word_limit
out_fits s sound = go (advance_out s) refl
  where
    go : (v : ℕ) → advance_out s ≡ v → v < word_limit
    go zero e = omega arith
    go (suc v) e =
        let was = (ticket_out_as_asked s (sound_valid s sound)).was_live (omega (arith, e)) in
        omega (arith, e, was.named, (sound.in_range.orders was.order was.live).ticket)

-- What a done advance gives.
pub advance_gives : (image reply : List ℕ) → SoundInRange (decode image) → advance_number image reply ≡ 0 → (word (advance_call image reply).reply reply_ticket_at ≡ advance_out (decode image)) × (word (advance_call image reply).reply reply_tick_at ≡ (decode image).clock + 1)
unfolding advance_call result advance_answer
advance_gives image reply sound done =
    let s = decode image in
    let a : Answer = record { ticket = advance_out s; tick = s.clock + 1; margin = pos 0 } in
    rw done (reply_ticket 0 a (out_fits s sound), reply_tick 0 a (omega (arith, sound.facts.clock)))
