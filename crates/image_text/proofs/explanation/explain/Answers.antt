-- `explain` prints into a new text. Bytes of another length are answered by their number alone.
use mathlib.Core.Path.{◌≡◌, ap}
use native.Mathlib.Omega.{arith}
use borrow.Author.Rules.{rules}
use lib.ListN.{length}
use Rattle.text.proofs.Printing.{at_front}
use Rattle.image_text.proofs.explanation.Numbers.{others_alone, other_length}
use Rattle.image_text.proofs.explanation.Rooms.{number_room}
use Rattle.image_text.proofs.explanation.explain.Goals as goal
use Rattle.image_text.proofs.explanation.explain.Goals.{in-Ok, in-Err}

pub put_number-requires : goal.put_number-requires
put_number-requires c = omega (arith, number_room c.from.result (omega arith), ap length c.new-text.ensures.bytes)

pub returns-clause-put : goal.returns-clause-put
returns-clause-put c =
    let image = c.args.image.now in
    elim c.match-try_from.branch [
      | in-Ok w ↦
          let e : w.in-Ok.image.now ≡ c.args.image.now = search rules in
          rw w.text-is (at_front c.new-text.ensures.start c.new-text.ensures.bytes (rw e at w.put_explained.ensures.said))
      | in-Err w ↦
          let alone = others_alone image 2 (other_length image w.in-Err.ensures.1) (λ e. omega arith) (λ e. omega arith) in
          rw (w.text-is, alone) (at_front c.new-text.ensures.start c.new-text.ensures.bytes (rw w.from.ensures at w.put_number.ensures))
    ]
