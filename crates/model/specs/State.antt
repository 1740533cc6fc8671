-- The pipeline's state (document 01: cabinet): what an image says.
use Rattle.std.specs.Prelude.{List, [], ℕ, replicate}
use Rattle.model.specs.declared.Order.{Order}
use Rattle.model.specs.declared.Service.{Service}
use Rattle.model.specs.Limits.{max_stations}

-- N stations; the clock; the next ticket, 0 when none is left; an entry for each of eight stations; the live orders in ticket order.
pub record State : Type 0 where
  pub n : ℕ
  pub clock : ℕ
  pub next : ℕ
  pub services : List Service
  pub orders : List Order

-- "idle (0, 0)"
abbrev pub idle : Service
idle = record { ticket = 0; left = 0 }

-- "a fresh image (clock 0, next ticket 1)": all stations idle, nobody live.
unfoldable pub fresh : ℕ → State
fresh n = record { n = n; clock = 0; next = 1; services = replicate max_stations idle; orders = [] }
