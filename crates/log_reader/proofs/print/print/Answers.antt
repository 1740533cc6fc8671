-- The buffer has room for all that is printed.
use mathlib.Core.Path.{◌≡◌, ap}
use Prim.Native.Nat.{ℕ}
use native.Mathlib.Omega.{arith}
use lib.ListN.{length, get_or}
use mir.Syntax.{w32}
use mir.Val.{Fits}
use borrow.Author.Rules.{rules}
use Rattle.log_reader.proofs.print.Room.{printed_room}
use Rattle.log_reader.proofs.print.print.Goals as goal

pub put_printed-requires : goal.put_printed-requires
put_printed-requires c =
    let s = c.args.s in
    let each : (i : ℕ) → Fits w32 (get_or s.rerun.busy i 0) = λ i. search rules in
    let long : length c.args.out.now ≡ 256 = search rules in
    omega (arith, ap length c.new-text.ensures.bytes, printed_room s (search rules) (λ i. omega (arith, each i)) (omega arith) (omega arith) (omega arith))
