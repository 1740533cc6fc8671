-- How long the rows of an image are, and that the stores that make an image are the image of the state.
use mathlib.Core.Path.{◌≡◌, refl}
use mathlib.Core.List.{List, [], ◌∷◌, ◌++◌, map}
use Prim.Native.Nat.{ℕ, ◌+◌, ◌-◌, ◌*◌, ◌/◌, ◌%◌, ◌≤◌}
use native.Mathlib.Omega.{arith}
use lib.ListN.{length, take, replicate, length-append, length-replicate}
use lib.Seq.{length-take-le}
use Rattle.model.specs.Limits.{max_stations, max_live}
use Rattle.model.specs.Lists.{concat}
use Rattle.model.specs.Bytes.{two_bytes, four_bytes}
use Rattle.model.specs.State.{fresh}
use Rattle.model.specs.Layout.{image_size, mark, version, services_at, service_size, records_at, record_size}
use Rattle.model.specs.Image.{service_bytes, order_bytes, encode}
use Rattle.lists.specs.Stored.{Stored}
use Rattle.lists.proofs.Stores.{stored_then, stored_all}
use Rattle.image.specs.declared.pipeline.Pipeline.{Pipeline}
use Rattle.image.specs.Pipeline.{listed}
use Rattle.model.specs.declared.Order.{Order}
use Rattle.model.specs.declared.Service.{Service}

pub length_service : (e : Service) → length (service_bytes e) ≡ service_size
unfolding service_bytes
length_service e = refl

pub length-halves : (l : List ℕ) → length (concat (map two_bytes l)) ≡ 2 * length l
unfolding concat
length-halves [] = refl
length-halves (x ∷ l) = omega (arith, length-halves l)

pub length-order : (o : Order) → length o.ranks ≡ 8 → length o.costs ≡ 8 → length o.maxima ≡ 8 → length (order_bytes o) ≡ record_size
unfolding order_bytes
length-order o r s t = simp length-append (omega (arith, length-halves o.costs, length-halves o.maxima))

-- A number of one byte, written as four.
pub byte_as_four : (v : ℕ) → four_bytes (v % 256) ≡ v % 256 ∷ 0 ∷ 0 ∷ 0 ∷ []
byte_as_four v =
    let a : v % 256 % 256 ≡ v % 256 = omega arith in
    let b : v % 256 / 256 % 256 ≡ 0 = omega arith in
    let c : v % 256 / 65536 % 256 ≡ 0 = omega arith in
    let d : v % 256 / 16777216 % 256 ≡ 0 = omega arith in
    rw (a, b, c, d)

-- The records beyond the live ones.
pub unused_count : (n live : ℕ) → n ≡ image_size → n - (records_at + record_size * live) ≡ record_size * (max_live - live)
unused_count n live h = omega arith

-- The four stores that make an image are the image of the state.
module _ (p : Pipeline) (room : p.live ≤ max_live) (long : length p.orders ≡ max_live) where
  abbrev header : List ℕ
  header = mark ++ two_bytes version ++ (p.n ∷ p.live ∷ 0 ∷ []) ++ four_bytes p.clock ++ four_bytes p.next

  abbrev services : List ℕ
  services = concat (map service_bytes p.services)

  abbrev orders : List ℕ
  orders = concat (map order_bytes (take p.live p.orders))

  abbrev zeros : List ℕ
  zeros = replicate (record_size * (max_live - p.live)) 0

  whole : encode (listed p) ≡ header ++ services ++ orders ++ zeros
  unfolding encode listed
  whole = rw (length-take-le p.live p.orders (omega arith))

  pub encoded : {l a b c d : List ℕ} → length l ≡ image_size → Stored l 0 header a → Stored a services_at services b → length services ≡ service_size * max_stations → Stored b records_at orders c → length orders ≡ record_size * p.live → Stored c (records_at + record_size * p.live) zeros d → d ≡ encode (listed p)
  encoded h s1 s2 n2 s3 n3 s4 =
      rw whole
      (stored_all
      (stored_then
      (stored_then (stored_then s1 refl s2) (simp length-append (omega (arith, n2))) s3)
      (simp length-append (omega (arith, n2, n3)))
      s4)
      (simp length-append (omega (arith, h, n2, n3, length-replicate {A = ℕ} (record_size * (max_live - p.live)) 0))))

pub after_header : (n : ℕ) → n ≡ image_size → n - services_at ≡ image_size - services_at
after_header n h = omega arith

-- A fresh pipeline's station entries and records are zeros.
pub fresh_encoded : {n : ℕ} {l a b : List ℕ} → length l ≡ image_size → Stored l 0 (mark ++ two_bytes version ++ (n ∷ 0 ∷ 0 ∷ []) ++ four_bytes 0 ++ four_bytes 1) a → Stored a services_at (replicate (image_size - services_at) 0) b → b ≡ encode (fresh n)
unfolding encode fresh service_bytes concat
fresh_encoded h s1 s2 = stored_all (stored_then s1 refl s2) (simp length-append (omega (arith, h, length-replicate {A = ℕ} (image_size - services_at) 0)))
