-- `SameMeans`. Only a log of the form with no difference has an output that begins with an s; it is the log written from what is read, and each of its lines
-- agrees with its call, with whatever reply is lent.
use mathlib.Core.Path.{◌≡◌, refl, ap}
use mathlib.Core.Bool.{Bool, true, false, cond}
use mathlib.Core.List.{List, [], ◌∷◌, ◌++◌}
use Prim.Native.Nat.{ℕ, ◌+◌, ◌≤◌}
use native.Mathlib.Omega.{arith}
use lib.ListN.{get_or}
use borrow.Author.Tests.{eqb-true}
use Rattle.model.specs.Lists.{is_zero}
use Rattle.model.specs.State.{fresh}
use Rattle.model.specs.Image.{encode}
use Rattle.model.specs.Calls.{perform}
use Rattle.text.specs.Ascii.{ascii}
use Rattle.log_model.specs.Lines.{Line, call_of}
use Rattle.log_model.specs.Rerun.{lent_reply, agrees, first_difference, differs_at}
use Rattle.log_model.specs.Output.{refused_at, stations_in, calls_in, refused_line, differs_line, result_of, rerun_output}
use Rattle.log_laws.specs.Meaning.{AllGive, SameMeans}
use Rattle.log_laws.proofs.RoundTrip.{written_back}
use Rattle.log_laws.proofs.Verdicts.{agreed_gives}

-- What begins as `same` does is not what begins otherwise.
begins_so : (b : Bool) (x other rest : List ℕ) → (get_or other 0 0 ≡ get_or (ascii "same\n") 0 0 → ⊥) → cond b x other ≡ ascii "same\n" ++ rest → (b ≡ true) × (x ≡ ascii "same\n" ++ rest)
begins_so true x other rest otherwise e = (refl, e)
begins_so false x other rest otherwise e = absurd (otherwise (ap (λ (l : List ℕ). get_or l 0 0) e))

not_refused : (log rest : List ℕ) → rerun_output log ≡ ascii "same\n" ++ rest → (refused_at log ≡ 0) × (result_of (stations_in log) (calls_in log) ≡ ascii "same\n" ++ rest)
unfolding rerun_output refused_line
not_refused log rest e =
    let so = begins_so (is_zero (refused_at log)) (result_of (stations_in log) (calls_in log)) (refused_line (refused_at log)) rest (λ z. omega arith) e in
    (eqb-true (refused_at log) 0 so.0, so.1)

no_difference : (n : ℕ) (calls : List Line) (rest : List ℕ) → result_of n calls ≡ ascii "same\n" ++ rest → differs_at n calls ≡ 0
unfolding result_of differs_line
no_difference n calls rest e =
    eqb-true (differs_at n calls) 0 (begins_so (is_zero (differs_at n calls)) _ (differs_line (differs_at n calls)) rest (λ z. omega arith) e).0

agreed : (b : Bool) (x k : ℕ) → 1 ≤ k → cond b x k ≡ 0 → (b ≡ true) × (x ≡ 0)
agreed true x k low e = (refl, e)
agreed false x k low e = absurd (let z : ⊥ = omega arith in z)

all_give : (k : ℕ) → 1 ≤ k → (image : List ℕ) (calls : List Line) → first_difference k image calls ≡ 0 → AllGive image calls
unfolding first_difference
all_give k low image [] e = tt
all_give k low image (line ∷ later) e =
    let result = perform (call_of line) image lent_reply in
    let first = agreed (agrees line result) (first_difference (k + 1) result.image later) k low e in
    (agreed_gives image line first.0, all_give (k + 1) (omega arith) result.image later first.1)

pub same_means : SameMeans
unfolding differs_at
same_means log rest e =
    let formed = not_refused log rest e in
    let back = written_back log formed.0 in
    record {
      n_low = back.low;
      n_high = back.high;
      is_log = back.is_log;
      given = all_give 2 (omega arith) (encode (fresh (stations_in log))) (calls_in log) (no_difference (stations_in log) (calls_in log) rest formed.1);
    }
