-- The records, the arrival and the header are one image: that of the accepted state.
use borrow.Author.Rules.{rules}
use mathlib.Core.Path.{◌≡◌, refl, ◌∙◌}
use mathlib.Core.Bool.{cond}
use mathlib.Core.List.{List}
use Prim.Native.Nat.{ℕ, ◌+◌}
use native.Mathlib.Omega.{arith}
use lib.Dec.{eqb}
use Rattle.model.specs.declared.Block.{Block}
use Rattle.model.specs.declared.Order.{Order}
use Rattle.model.specs.Limits.{last_ticket}
use Rattle.model.specs.Image.{decode}
use Rattle.model.specs.Admission.{arrival, accept}
use Rattle.lists.proofs.Stores.{stored_length}
use Rattle.image_laws.proofs.Read.{decode_n}
use Rattle.admission.specs.Acceptance.{Acceptable}
use Rattle.admission.proofs.acceptance.AcceptLaws.{room, sums, accepted}
use Rattle.admission.proofs.acceptance.accept.Goals as goal

-- The ticket after the arrival's is the next one.
next_is : (image : List ℕ) {b : Block} {a : Order} {next : ℕ} → Acceptable image b a → next ≡ cond (eqb a.ticket last_ticket) 0 (a.ticket + 1) → next ≡ (accept (decode image) b).next
unfolding accept arrival
next_is image ok e = e ∙ rw ok.arrives

pub put_joined-requires : goal.put_joined-requires
put_joined-requires c =
    let spare = room c.requires (λ i. search rules) in
    let ok = c.requires in
    record { few = omega (arith, c.from.ensures, spare); by_index = λ i h. sums ok (λ i. search rules) i (omega (arith, h, c.from.ensures)) }

pub overflow_mul-from : goal.overflow_mul-from
overflow_mul-from c =
    let spare = room c.requires (λ i. search rules) in
    omega (arith, c.from-2.ensures, spare)

pub overflow_add-from : goal.overflow_add-from
overflow_add-from c =
    let spare = room c.requires (λ i. search rules) in
    omega (arith, c.from-2.ensures, spare)

pub put_order-requires : goal.put_order-requires
put_order-requires c =
    let spare = room c.requires (λ i. search rules) in
    omega (arith, c.from-2.ensures, spare, c.requires.whole, stored_length c.put_joined.ensures.stored)

pub overflow_add-live : goal.overflow_add-live
overflow_add-live c =
    let spare = room c.requires (λ i. search rules) in
    omega (arith, spare)

pub returns : goal.returns
returns c =
    let ok = c.requires in
    let rows = rw c.from.ensures at c.put_joined.ensures in
    let laid = rw c.from-2.ensures at c.put_order.ensures.0 in
    accepted ok (λ i. search rules) refl rows.stored rows.live_len laid c.put_order.ensures.1 c.put_header.ensures (decode_n _) (next_is _ ok c.ticket_after.ensures)
