-- Document 01, "Sound means", as facts about the state that an image says, in its order. Zero bytes and unused records are the image's alone.
use Rattle.std.specs.Prelude.{◌≡◌, true, ◌⊎◌, List, ℕ, ◌+◌, ◌≤◌, ◌<◌, length}
use Rattle.model.specs.declared.Order.{Order}
use Rattle.model.specs.Limits.{max_stations, max_live, max_cost, max_due_in, last_tick}
use Rattle.model.specs.Lists.{at, largest}
use Rattle.model.specs.State.{State, idle}
use Rattle.model.specs.DelayBound.{delay_bound}
use Rattle.model.specs.Image.{decode, encode}
use Rattle.model.specs.Soundness.{sound}
use Rattle.schedule.specs.Valid.{◌∈◌, serving, cost, rank, Busy, Rising, Valid}
use Rattle.image_laws.specs.InRange.{byte_limit, word_limit, Below, InRange}

-- The company's largest cost at station k.
abbrev pub maximum : Order → ℕ → ℕ
maximum o k = at 0 o.maxima k

-- A live order of a pipeline of n stations whose clock shows `clock`.
pub record SoundOrder (n clock : ℕ) (o : Order) : Type 0 where
  -- "live tickets at least 1"
  pub named : 1 ≤ o.ticket
  -- "acceptance at most the clock"
  pub accepted : o.accepted ≤ clock
  -- "due tick 1 to 60,000 after acceptance and at most 4,000,000,000"
  pub due_after : o.accepted + 1 ≤ o.due
  pub due_within : o.due ≤ o.accepted + max_due_in
  pub due_last : o.due ≤ last_tick
  -- "station 1 to N"
  pub station_low : 1 ≤ o.station
  pub station_high : o.station ≤ n
  -- "costs in range"
  pub cost_low : (k : ℕ) → 1 ≤ k → k ≤ n → 1 ≤ cost o k
  pub cost_high : (k : ℕ) → 1 ≤ k → k ≤ n → cost o k ≤ max_cost
  -- "each maximum at least the own cost and at most 6,000"
  pub maximum_low : (k : ℕ) → 1 ≤ k → k ≤ n → cost o k ≤ maximum o k
  pub maximum_high : (k : ℕ) → 1 ≤ k → k ≤ n → maximum o k ≤ max_cost
  -- "the sum at least the own largest cost"
  pub sum : largest o.costs ≤ o.sum
  -- "the order on time"
  pub on_time : o.accepted + delay_bound n o.sum o.maxima ≤ o.due
  -- "fields beyond N zero"
  pub rank_beyond : (k : ℕ) → n < k → rank o k ≡ 0
  pub cost_beyond : (k : ℕ) → n < k → cost o k ≡ 0
  pub maximum_beyond : (k : ℕ) → n < k → maximum o k ≡ 0

pub record SoundState (s : State) : Type 0 where
  -- "N 1 to 8"
  pub n_low : 1 ≤ s.n
  pub n_high : s.n ≤ max_stations
  -- "live at most 32"
  pub live : length s.orders ≤ max_live
  -- "clock at most 4,000,000,000"
  pub clock : s.clock ≤ last_tick
  -- "live tickets .. rising, and below the next ticket where that is not 0"
  pub rising : Rising s.orders
  pub below : (o : Order) → o ∈ s.orders → (s.next ≡ 0) ⊎ (o.ticket < s.next)
  -- what is said of each live order
  pub orders : (o : Order) → o ∈ s.orders → SoundOrder s.n s.clock o
  -- "fields beyond N zero"
  pub idle_beyond : (k : ℕ) → s.n < k → serving s k ≡ idle
  -- "each station idle (0, 0) or serving a live order that is at it, with ticks to go from 1 to its cost there"
  pub services : (k : ℕ) → 1 ≤ k → k ≤ s.n → (serving s k ≡ idle) ⊎ Busy s k

-- What the facts leave open of the fields' sizes.
pub record Shaped (s : State) : Type 0 where
  pub next : s.next < word_limit
  pub eight : length s.services ≡ max_stations
  pub ticket : (o : Order) → o ∈ s.orders → o.ticket < word_limit
  pub ranks : (o : Order) → o ∈ s.orders → length o.ranks ≡ max_stations
  pub costs : (o : Order) → o ∈ s.orders → length o.costs ≡ max_stations
  pub maxima : (o : Order) → o ∈ s.orders → length o.maxima ≡ max_stations

abbrev pub SoundFits : Type 0
SoundFits = (s : State) → SoundState s → Shaped s → InRange s

-- A state that a sound image may say: the facts, and figures that fit the fields.
pub record SoundInRange (s : State) : Type 0 where
  pub facts : SoundState s
  pub in_range : InRange s

-- A sound image says such a state.
abbrev pub SoundGives : Type 0
SoundGives = (image : List ℕ) → Below byte_limit image → sound image ≡ true → SoundInRange (decode image)

-- Such a state has a sound image.
abbrev pub GivesSound : Type 0
GivesSound = (s : State) → SoundInRange s → sound (encode s) ≡ true

-- Such a state is one that a pipeline comes to.
abbrev pub SoundValid : Type 0
SoundValid = (s : State) → SoundInRange s → Valid s
