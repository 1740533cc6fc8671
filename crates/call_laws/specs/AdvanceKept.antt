-- What an advance leaves in the state and in the image.
use Rattle.std.specs.Prelude.{◌≡◌, List, ℕ, ◌<◌}
use Rattle.model.specs.Limits.{last_tick}
use Rattle.model.specs.State.{State}
use Rattle.model.specs.Tick.{advance}
use Rattle.model.specs.Image.{decode}
use Rattle.model.specs.Calls.{advance_number, advance_call}
use Rattle.image_laws.specs.InRange.{byte_limit, Below}
use Rattle.image_laws.specs.SoundFacts.{SoundInRange}
use Rattle.image_laws.specs.SoundImage.{SoundImage}

-- The course of one tick leaves a sound state, from every sound state whose clock has not come to its end.
abbrev pub AdvanceSound : Type 0
AdvanceSound = (s : State) → SoundInRange s → s.clock < last_tick → SoundInRange (advance s)

-- A done advance leaves a whole, marked and sound image, which says the state after the tick.
abbrev pub AdvanceKeepsSound : Type 0
AdvanceKeepsSound = (image reply : List ℕ) → Below byte_limit image → advance_number image reply ≡ 0 → SoundImage (advance_call image reply).image (advance (decode image))

-- "Every decline leaves the image alone."
abbrev pub AdvanceDeclineLeaves : Type 0
AdvanceDeclineLeaves = (image reply : List ℕ) → (advance_number image reply ≡ 0 → ⊥) → (advance_call image reply).image ≡ image
