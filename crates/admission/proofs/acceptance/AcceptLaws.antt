-- The live records are written anew, each where it stood, the arrival after them, and the header: the image of the accepted state.
use mathlib.Core.Path.{◌≡◌, refl, sym, ap, subst, ◌∙◌}
use mathlib.Core.List.{List, [], ◌∷◌, ◌++◌, map, append_assoc, map-append}
use Prim.Native.Nat.{ℕ, ◌+◌, ◌-◌, ◌*◌, ◌≤◌, ◌<◌}
use native.Mathlib.Omega.{arith}
use lib.ListN.{length, get_or, replicate, length-append, length-replicate, length-map, replicate-append-replicate}
use Rattle.model.specs.declared.Block.{Block}
use Rattle.model.specs.declared.Order.{Order}
use Rattle.model.specs.Limits.{max_live}
use Rattle.model.specs.Lists.{concat, upward, largest}
use Rattle.model.specs.Bytes.{two_bytes, four_bytes}
use Rattle.model.specs.State.{State}
use Rattle.model.specs.Layout.{mark, version, records_at, record_size, record_part}
use Rattle.model.specs.Image.{live_count, order_of, order_bytes, orders_of, decode, encode}
use Rattle.model.specs.Admission.{arrival, joined_by, joined_live, accept}
use Rattle.lists.specs.Stored.{Stored}
use Rattle.lists.proofs.Stores.{stored_then, stored_part}
use Rattle.lists.proofs.Fills.{Rows, concat-append, concat-one, get_d_upward, past}
use Rattle.lists.proofs.Tests.{upward-map}
use Rattle.schedule.specs.Valid.{◌∈◌}
use Rattle.image_laws.specs.InRange.{byte_limit, Below, InRange}
use Rattle.image_laws.proofs.Rows.{get_d_in}
use Rattle.image_laws.proofs.Read.{decode-live}
use Rattle.image_laws.proofs.Written.{header, entries, after_header}
use Rattle.image_laws.proofs.Overwritten.{rear, rear_length, header_over, records_over}
use Rattle.image_laws.proofs.Sound.{encode-decode, sound_gives}
use Rattle.image.specs.Pipeline.{listed, padded}
use Rattle.image.proofs.pipeline.TwoForms.{listed_padded}
use Rattle.call_laws.specs.Considered.{Fitting}
use Rattle.call_laws.proofs.offers.Accept.{accept_length}
use Rattle.image.proofs.Decoded.{sound_pipeline}
use Rattle.admission.proofs.order_questions.PipelineLaws.{sums_fit}
use Rattle.admission.specs.Acceptance.{Acceptable}

-- A map over records that are read in turn.
pub joined_rows : (b : Block) (f : ℕ → Order) (n : ℕ) → upward 0 n (λ i. order_bytes (joined_by b (f i))) ≡ map order_bytes (map (joined_by b) (upward 0 n f))
joined_rows b f n = sym (ap (map order_bytes) (upward-map (joined_by b) 0 n f) ∙ upward-map order_bytes 0 n (λ i. joined_by b (f i)))

-- While the first i records are written the one after them is as it was.
pub still : {f : ℕ → List ℕ} {l m : List ℕ} {i : ℕ} → Rows f record_size l records_at i m → records_at + record_size * i ≤ length l → record_part m i ≡ record_part l i
still {i = i} r h = stored_part r.stored (omega (arith, r.long)) (records_at + record_size * i) record_size (omega (arith, r.long))

module _ {image : List ℕ} {b : Block} {a : Order} (ok : Acceptable image b a) (bytes : Below byte_limit image) where
  live : length (decode image).orders ≡ live_count image
  live = decode-live image

  figures : InRange (decode image)
  figures = (sound_gives image bytes ok.is_sound).in_range

  same : encode (decode image) ≡ image
  same = encode-decode image ok.whole bytes ok.is_marked ok.is_sound

  -- There is an unused record.
  pub room : live_count image < max_live
  room = omega (arith, live, ok.fitting.room)

  -- Each live order's sum fits with the arrival's largest cost.
  pub sums : (i : ℕ) → i < live_count image → largest b.costs + (order_of (record_part image i)).sum < 4294967296
  unfolding decode listed
  sums i h =
      let p = padded (decode image) in
      let said : listed p ≡ decode image = listed_padded (decode image) in
      let here : get_or (decode image).orders i past ∈ (decode image).orders = get_d_in (decode image).orders past i (omega (arith, h, live)) in
      let fits = sums_fit (sound_pipeline image bytes ok.is_sound refl) (subst (λ (t : State). Fitting t b) (sym said) ok.fitting) refl (get_or (decode image).orders i past) (subst (λ (t : State). get_or (decode image).orders i past ∈ t.orders) (sym said) here) in
      rw (get_d_upward (live_count image) (λ j. order_of (record_part image j)) i past h) at fits

  spare : List ℕ
  spare = replicate (record_size * (max_live - (live_count image + 1))) 0

  orders : List ℕ
  orders = concat (map order_bytes (decode image).orders)

  -- The records: those of the live orders, the first unused one, and the others.
  divided : rear (decode image) ≡ (orders ++ replicate record_size 0) ++ spare
  unfolding orders spare
  divided =
      let e : record_size * (max_live - length (decode image).orders) ≡ record_size + record_size * (max_live - (live_count image + 1)) = omega (arith, live, room) in
      rw (e, ← replicate-append-replicate {A = ℕ} record_size (record_size * (max_live - (live_count image + 1))) 0) (sym (append_assoc (concat (map order_bytes (decode image).orders)) (replicate record_size 0) (replicate (record_size * (max_live - (live_count image + 1))) 0)))

  written_long : length (orders ++ replicate record_size 0) ≡ record_size * live_count image + record_size
  unfolding spare
  written_long =
      let whole : length (rear (decode image)) ≡ record_size * max_live = rear_length (decode image) figures in
      omega (arith, ap length divided, length-append (orders ++ replicate record_size 0) spare, length-replicate {A = ℕ} (record_size * (max_live - (live_count image + 1))) 0, whole, room)

  accepted_live : length (accept (decode image) b).orders ≡ live_count image + 1
  accepted_live = accept_length (decode image) b ∙ ap (λ (k : ℕ). k + 1) live

  accepted_at_lem : a.accepted ≡ (decode image).clock
  unfolding arrival
  accepted_at_lem = ap (λ (o : Order). o.accepted) ok.arrives

  module _ {v : List ℕ} (is : v ≡ concat (map order_bytes (map (joined_by b) (orders_of image (live_count image))))) where
    -- The accepted state's records.
    accepted_records : v ++ order_bytes a ++ spare ≡ rear (accept (decode image) b)
    unfolding spare accept joined_live decode
    accepted_records =
        let joined = map (joined_by b) (decode image).orders in
        let e : concat (map order_bytes (joined ++ (arrival (decode image) b ∷ []))) ≡ v ++ order_bytes a =
        rw (map-append order_bytes joined (arrival (decode image) b ∷ []), concat-append (map order_bytes joined) (order_bytes (arrival (decode image) b) ∷ []), concat-one (order_bytes (arrival (decode image) b)), ← ok.arrives)
        (ap (λ (l : List ℕ). l ++ order_bytes a) (sym is)) in
        let k : record_size * (max_live - length (joined ++ (arrival (decode image) b ∷ []))) ≡ record_size * (max_live - (live_count image + 1)) =
        rw (length-append joined (arrival (decode image) b ∷ []), length-map (decode image).orders (joined_by b), live) refl in
        rw (e, k) refl

    pub accepted : {m1 m2 m3 : List ℕ} {n next : ℕ} → Stored image records_at v m1 → length v ≡ record_size * live_count image → Stored m1 (records_at + record_size * live_count image) (order_bytes a) m2 → length (order_bytes a) ≡ record_size → Stored m2 0 (mark ++ two_bytes version ++ (n ∷ (live_count image + 1) ∷ 0 ∷ []) ++ four_bytes a.accepted ++ four_bytes next) m3 → n ≡ (decode image).n → next ≡ (accept (decode image) b).next → m3 ≡ encode (accept (decode image) b)
    unfolding decode accept
    accepted {m1} {m2} {m3} {n} {next} s1 n1 s2 n2 s3 n_is next_is =
        let both : Stored (encode (decode image)) records_at (v ++ order_bytes a) m2 = rw (sym same) at (stored_then s1 (ap (λ (k : ℕ). records_at + k) (sym n1)) s2) in
        let long : length (orders ++ replicate record_size 0) ≡ length (v ++ order_bytes a) = written_long ∙ sym (length-append v (order_bytes a) ∙ omega (arith, n1, n2)) in
        let over : m2 ≡ header (decode image) ++ (entries (decode image) ++ (v ++ order_bytes a ++ spare)) = records_over (decode image) figures (orders ++ replicate record_size 0) spare divided long both in
        let head = header_over (decode image) (v ++ order_bytes a ++ spare) (rw over at s3) refl in
        head
        ∙ ap (λ (r : List ℕ). mark ++ two_bytes version ++ (n ∷ (live_count image + 1) ∷ 0 ∷ []) ++ four_bytes a.accepted ++ four_bytes next ++ (entries (decode image) ++ r)) accepted_records
        ∙ rw (n_is, next_is, ← accepted_live, accepted_at_lem) (sym (after_header (accept (decode image) b)))
