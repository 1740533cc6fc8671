-- Demand 2, of offers: "11 and 12 only when late", in plain terms over the delay bound (document 01: delay sum).
use Rattle.std.specs.Prelude.{◌≡◌, true, false, ◌⊎◌, List, ◌∷◌, ℕ, ◌+◌, ◌≤◌, ◌<◌, ℤ, pos, ◌-ℤ◌}
use Rattle.std.specs.Int.Signed.{mag, lt_z}
use Rattle.model.specs.declared.Block.{Block}
use Rattle.model.specs.declared.Order.{Order}
use Rattle.model.specs.Lists.{part}
use Rattle.model.specs.Bytes.{four_bytes, bits32}
use Rattle.model.specs.State.{State}
use Rattle.model.specs.DelayBound.{delay_bound}
use Rattle.model.specs.Layout.{reply_tick_at, reply_margin_at}
use Rattle.model.specs.Image.{decode}
use Rattle.model.specs.Admission.{block_of, arrival, joined_by, joined_live}
use Rattle.model.specs.Calls.{offer_number, offer_call}
use Rattle.schedule.specs.Valid.{◌∈◌}
pub use Rattle.image_laws.specs.Iff.{◌⇔◌}
use Rattle.image_laws.specs.InRange.{byte_limit, Below}
use Rattle.call_laws.specs.Considered.{Considered}

-- "acceptance tick + delay sum" of an order, in a pipeline of n stations.
abbrev pub bound_tick_of : ℕ → Order → ℕ
bound_tick_of n o = o.accepted + delay_bound n o.sum o.maxima

-- "on time while acceptance tick + delay sum is at most its due tick"
abbrev pub InTime : ℕ → Order → Type 0
InTime n o = bound_tick_of n o ≤ o.due

abbrev pub Late : ℕ → Order → Type 0
Late n o = o.due < bound_tick_of n o

-- "Margin is due tick minus that total, a whole number that may be below zero."
abbrev pub margin_of : ℕ → Order → ℤ
margin_of n o = pos o.due -ℤ pos (bound_tick_of n o)

-- A margin that is the smallest over the arrival and the live orders: one of them has it, and none a smaller one.
pub record Smallest (s : State) (b : Block) (m : ℤ) : Type 0 where
  pub order : Order
  pub among : order ∈ (arrival s b ∷ joined_live s b)
  pub attained : m ≡ margin_of s.n order
  pub least : (o : Order) → o ∈ (arrival s b ∷ joined_live s b) → lt_z (margin_of s.n o) m ≡ false

-- The margin that a reply's four bytes give with a number.
pub record MarginGiven (image : List ℕ) (number : ℕ) (s : State) (b : Block) (bytes : List ℕ) : Type 0 where
  pub given : ℤ
  pub smallest : Smallest s b given
  pub written : bytes ≡ four_bytes (bits32 given)
  -- It is one of the signed numbers of 32 bits, of which no two have the same bytes.
  pub signed32 : Below byte_limit image → mag given < 2147483648
  -- Below zero with 11 and 12, and not below zero with 0.
  pub to_spare : number ≡ 0 → lt_z given (pos 0) ≡ false
  pub too_late : (number ≡ 11) ⊎ (number ≡ 12) → lt_z given (pos 0) ≡ true

-- What an offer returns and gives, for anything that is lent. `joined_by b o` is the live order o with the arrival in its interference set.
pub record ExactAt (image block reply : List ℕ) (s : State) (b : Block) : Type 0 where
  -- 0 exactly when all twelve questions pass.
  pub done : (offer_number image block reply ≡ 0) ⇔ (Considered image block reply × InTime s.n (arrival s b) × ((o : Order) → o ∈ s.orders → InTime s.n (joined_by b o)))
  -- 11 exactly when those before it pass and the arrival is late.
  pub late : (offer_number image block reply ≡ 11) ⇔ (Considered image block reply × Late s.n (arrival s b))
  -- 12 exactly when those before it pass, the arrival is on time, and a live order would not be.
  pub delaying : (offer_number image block reply ≡ 12) ⇔ (Considered image block reply × InTime s.n (arrival s b) × (o : Order) × (o ∈ s.orders) × Late s.n (joined_by b o))
  -- The tick that a done offer gives is the arrival's, and with 0, 11 and 12 the margin given is the smallest.
  pub tick : offer_number image block reply ≡ 0 → part (offer_call image block reply).reply reply_tick_at 4 ≡ four_bytes (bound_tick_of s.n (arrival s b))
  pub margin : (offer_number image block reply ≡ 0) ⊎ (offer_number image block reply ≡ 11) ⊎ (offer_number image block reply ≡ 12) → MarginGiven image (offer_number image block reply) s b (part (offer_call image block reply).reply reply_margin_at 4)

abbrev pub Exact : Type 0
Exact = (image block reply : List ℕ) → ExactAt image block reply (decode image) (block_of block)
