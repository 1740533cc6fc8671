-- The parts that decode reads are the state that the image says, with its records up to 32.
use mathlib.Core.Path.{◌≡◌}
use mathlib.Core.List.{List, ◌++◌}
use Prim.Native.Nat.{ℕ, ◌-◌}
use lib.ListN.{replicate}
use Rattle.model.specs.Limits.{max_live}
use Rattle.model.specs.Bytes.{byte, word}
use Rattle.model.specs.Layout.{station_count_at, clock_at, next_at, record_part}
use Rattle.model.specs.Image.{live_count, order_of, services_of, orders_of, decode}
use Rattle.lists.proofs.Fills.{length-upward}
use Rattle.image.specs.Pipeline.{unused, padded}
use Rattle.model.specs.declared.Order.{Order}
use Rattle.model.specs.declared.Service.{Service}

pub parts_padded : (image : List ℕ) (clock next : ℕ) (services : List Service) (orders : List Order) → clock ≡ word image clock_at → next ≡ word image next_at → services ≡ services_of image → orders ≡ orders_of image (live_count image) ++ replicate (max_live - live_count image) unused → record { n = byte image station_count_at; live = live_count image; clock = clock; next = next; services = services; orders = orders } ≡ padded (decode image)
unfolding padded decode
parts_padded image clock next services orders c n s o = rw (c, n, s, o, length-upward 0 (live_count image) (λ i. order_of (record_part image i)))
