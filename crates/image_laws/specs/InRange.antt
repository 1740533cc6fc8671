-- The states whose figures fit the image's fields (document 01, "The image": how many bytes each has).
use Rattle.std.specs.Prelude.{◌≡◌, List, ℕ, ◌≤◌, ◌<◌, length, get_or}
use Rattle.model.specs.declared.Order.{Order}
use Rattle.model.specs.declared.Service.{Service}
use Rattle.model.specs.Limits.{max_stations, max_live}
use Rattle.model.specs.State.{State}
use Rattle.schedule.specs.Valid.{◌∈◌}

-- Fields of one byte, of two and of four hold the numbers below.
abbrev pub byte_limit : ℕ
byte_limit = 256

abbrev pub half_limit : ℕ
half_limit = 65536

abbrev pub word_limit : ℕ
word_limit = 4294967296

-- Every entry is below a limit. Past the end stands 0.
abbrev pub Below : ℕ → List ℕ → Type 0
Below limit l = (i : ℕ) → get_or l i 0 < limit

-- An entry for each of eight stations.
pub record Row (limit : ℕ) (l : List ℕ) : Type 0 where
  pub eight : length l ≡ max_stations
  pub below : Below limit l

-- "ticket in service or 0 (4), ticks to go (2)"
pub record ServiceInRange (e : Service) : Type 0 where
  pub ticket : e.ticket < word_limit
  pub left : e.left < half_limit

-- "ticket, acceptance tick, due tick, sum of the company's largest costs (4 each); station (1); ..
-- eight ranks (1 each); eight costs (2 each); the company's largest cost at each station (2 each)"
-- A rank is written as it is and read as it stands, so that its size is asked only where bytes are promised: `ByteRanks`.
pub record OrderInRange (o : Order) : Type 0 where
  pub ticket : o.ticket < word_limit
  pub accepted : o.accepted < word_limit
  pub due : o.due < word_limit
  pub sum : o.sum < word_limit
  pub station : o.station < byte_limit
  pub ranks : length o.ranks ≡ max_stations
  pub costs : Row half_limit o.costs
  pub maxima : Row half_limit o.maxima

-- "then N, live count, .. clock (4 bytes); next ticket (4) .. Then eight station entries .. Then 32 records"
pub record InRange (s : State) : Type 0 where
  pub n : s.n < byte_limit
  pub clock : s.clock < word_limit
  pub next : s.next < word_limit
  pub eight : length s.services ≡ max_stations
  pub services : (e : Service) → e ∈ s.services → ServiceInRange e
  pub live : length s.orders ≤ max_live
  pub orders : (o : Order) → o ∈ s.orders → OrderInRange o

-- "eight ranks (1 each)": of every live order.
abbrev pub ByteRanks : State → Type 0
ByteRanks s = (o : Order) → o ∈ s.orders → Below byte_limit o.ranks
