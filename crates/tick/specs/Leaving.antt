-- Document 01: "An order with nothing to go leaves its station, and waits at the next or, after station N, is out." The orders that are not out, and
-- their records in the image.
use Rattle.std.specs.Prelude.{◌≡◌, Bool, not, cond, ◌&&◌, List, ◌++◌, map, ℕ, ◌+◌, ◌-◌, ◌*◌, ◌≤◌, length, replicate, leb, eqb}
use Rattle.model.specs.declared.Order.{Order}
use Rattle.model.specs.declared.Service.{Service}
use Rattle.model.specs.Limits.{max_live}
use Rattle.model.specs.Lists.{is_zero, only, concat}
use Rattle.model.specs.Layout.{records_at, record_size}
use Rattle.model.specs.Image.{order_bytes}
use Rattle.model.specs.Tick.{move_to}
use Rattle.lists.specs.Stored.{Stored}
use Rattle.schedule.specs.Valid.{◌∈◌}
use Rattle.schedule.specs.Pass.{moved}
use Rattle.tick.specs.Selection.{Placed}

-- Whether an order leaves the station of this entry.
unfoldable pub finishes : Service → Bool
finishes e = not (is_zero e.ticket) && is_zero e.left

-- The record of an order once those with nothing to go have left their stations (`moved`), by the entry of its own station.
unfoldable pub moved_by : Service → Order → Order
moved_by e o = move_to (cond (eqb e.ticket o.ticket && is_zero e.left) (o.station + 1) o.station) o

unfoldable pub remaining : ℕ → List Service → List Order → List Order
remaining n services orders = only (λ o. leb o.station n) (map (moved services) orders)

-- Live orders as a sound state has them: at most 32, each with a ticket, and at a station up to n.
pub record Held (n : ℕ) (orders : List Order) : Type 0 where
  pub room : length orders ≤ max_live
  pub placed : (o : Order) → o ∈ orders → Placed o
  pub high : (o : Order) → o ∈ orders → o.station ≤ n

-- The bytes of records, one after the other.
abbrev pub rows : List Order → List ℕ
rows orders = concat (map order_bytes orders)

-- The image has these records, from the first on: to store them there changes nothing.
pub record Holds (image : List ℕ) (orders : List Order) : Type 0 where
  pub there : Stored image records_at (rows orders) image
  pub long : length (rows orders) ≡ record_size * length orders

-- `kept` of the orders remain, and image m is image l with their records from the first on.
pub record Moved (n : ℕ) (services : List Service) (orders : List Order) (l : List ℕ) (kept : ℕ) (m : List ℕ) : Type 0 where
  pub few : kept ≤ length orders
  pub count : kept ≡ length (remaining n services orders)
  pub stored : Stored l records_at (rows (remaining n services orders)) m
  pub long : length (rows (remaining n services orders)) ≡ record_size * kept

-- The same, and the records that are then free are zero.
pub record Left (n : ℕ) (services : List Service) (orders : List Order) (l : List ℕ) (kept : ℕ) (m : List ℕ) : Type 0 where
  pub few : kept ≤ length orders
  pub count : kept ≡ length (remaining n services orders)
  pub stored : Stored l records_at (rows (remaining n services orders) ++ replicate (record_size * (length orders - kept)) 0) m
  pub long : length (rows (remaining n services orders)) ≡ record_size * kept
