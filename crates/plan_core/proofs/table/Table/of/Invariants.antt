-- The rows and the largest costs of the records so far, all of which are in range.
use mathlib.Core.Path.{◌≡◌}
use mathlib.Core.Bool.{true}
use Prim.Native.Nat.{◌-◌}
use lib.ListN.{take, replicate}
use Rattle.model.specs.Lists.{all, larger}
use Rattle.plan_model.specs.Base.{stage_maxima}
use Rattle.plan_model.specs.Plan.{in_range}
use Rattle.plan_core.specs.Table.{rows_of}
use Rattle.plan_core.proofs.table.Table.of.Given as goal

abbrev pub invariant-loop-task : goal.invariant-loop-task
invariant-loop-task l =
    record {
      in_range : all (in_range l.stations) (take l.task-index l.tasks) ≡ true;
      rows : l.rows.items ≡ rows_of l.stations (take l.task-index l.tasks);
      maxima : l.maxima ≡ larger (replicate 8 0) (stage_maxima l.stations (take l.task-index l.tasks));
      before : l.before ≡ l.stations - 1;
    }
