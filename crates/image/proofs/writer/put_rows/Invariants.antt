-- The rows so far are one store.
use mathlib.Core.Path.{◌≡◌}
use mathlib.Core.List.{map}
use Prim.Native.Nat.{◌*◌}
use lib.ListN.{length, take}
use Rattle.model.specs.Lists.{concat}
use Rattle.lists.specs.Stored.{Stored}
use Rattle.image.proofs.writer.put_rows.Given as goal

abbrev pub invariant-loop-i : goal.invariant-loop-i
invariant-loop-i g l = record {
  stored : Stored l.initial.out l.at (concat (map g.T.Row.bytes (take l.i l.fn.rows))) l.out;
  long : length (concat (map g.T.Row.bytes (take l.i l.fn.rows))) ≡ g.T.Row.SIZE * l.i;
  same : length l.out ≡ length l.initial.out;
}
