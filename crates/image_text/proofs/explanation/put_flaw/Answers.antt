use native.Mathlib.Omega.{arith}
use Rattle.std.proofs.Common.{Some, None}
use Rattle.image_text.proofs.explanation.Rooms.{clause_room}
use Rattle.image_text.proofs.explanation.put_flaw.Goals as goal

pub put_clause-requires : goal.put_clause-requires
put_clause-requires c = rw c.name.ensures (omega (arith, clause_room (Some c.in-Some.flaw)))

pub put_clause-requires-in-None : goal.put_clause-requires-in-None
put_clause-requires-in-None c = omega (arith, clause_room None)

pub returns-in-Some-clause-within : goal.returns-in-Some-clause-within
returns-in-Some-clause-within c =
    let p = rw c.name.ensures at c.put_clause.ensures in
    omega (arith, p.put.place, clause_room (Some c.in-Some.flaw))

pub returns-in-None-clause-within : goal.returns-in-None-clause-within
returns-in-None-clause-within c = omega (arith, clause_room None)
