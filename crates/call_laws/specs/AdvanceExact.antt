-- "advance 1 to 4, then 13": what an advance returns and gives, in plain terms.
use Rattle.std.specs.Prelude.{◌≡◌, List, ◌++◌, ℕ, ◌+◌, ◌<◌}
use Rattle.model.specs.Limits.{last_tick}
use Rattle.model.specs.Bytes.{four_bytes}
use Rattle.model.specs.State.{State}
use Rattle.model.specs.Tick.{advance_out}
use Rattle.model.specs.Image.{decode}
use Rattle.model.specs.Calls.{advance_number, advance_call}
use Rattle.image_laws.specs.Iff.{◌⇔◌}
use Rattle.image_laws.specs.Usable.{Usable}

-- For anything that is lent; `s` is the state that the image says.
pub record ExactAt (image reply : List ℕ) (s : State) : Type 0 where
  -- 0 exactly when what is lent is usable and the clock has not come to its end.
  pub done : (advance_number image reply ≡ 0) ⇔ (Usable image reply × (s.clock < last_tick))
  -- 13 exactly when what is lent is usable and the clock has come to its end.
  pub ended : (advance_number image reply ≡ 13) ⇔ (Usable image reply × (s.clock ≡ last_tick))
  -- "advance gives the ticket out or 0, the new clock, and 0"
  pub given : advance_number image reply ≡ 0 → (advance_call image reply).reply ≡ four_bytes 0 ++ four_bytes (advance_out s) ++ four_bytes (s.clock + 1) ++ four_bytes 0

abbrev pub AdvanceNumbers : Type 0
AdvanceNumbers = (image reply : List ℕ) → ExactAt image reply (decode image)
