-- What a line's call comes to, from the number, the image and the reply that it gives. An offer passes no tick, and an advance only where it is done.
use mathlib.Core.Path.{◌≡◌, refl, ap, ◌∙◌}
use mathlib.Core.Bool.{Bool, ◌&&◌}
use mathlib.Core.List.{List, append-nil}
use Prim.Native.Nat.{ℕ, zero, suc}
use lib.Dec.{eqb}
use lib.ListN.{length}
use Rattle.model.specs.declared.Block.{Block}
use Rattle.model.specs.Limits.{max_stations}
use Rattle.model.specs.Admission.{block_bytes}
use Rattle.model.specs.Bytes.{word}
use Rattle.model.specs.Layout.{reply_ticket_at}
use Rattle.model.specs.Image.{decode}
use Rattle.model.specs.Calls.{Call, offering, perform}
use Rattle.dispatcher.specs.Gives.{Gives}
use Rattle.log_model.specs.declared.Rerun.{Rerun}
use Rattle.log_model.specs.Lines.{Line, offered, advanced, to_eight, call_of, number_of, ticket_of}
use Rattle.log_model.specs.Rerun.{lent_reply, agrees}
use Rattle.log_model.specs.Reading.{Ran, occupied, tick_passed, after_line, compared_by, ran_line}
use Rattle.log_lines.specs.declared.Running.{Running}
use Rattle.log_lines.specs.Running.{ran_of, Leaves, Counts}

-- Of an advance.
pub declined_passes : (ticket number : ℕ) (here : List Bool) (r : Rerun) → (number ≡ 0 → ⊥) → r ≡ after_line (advanced ticket) number here r
unfolding after_line
declined_passes ticket zero here r some = absurd (some refl)
declined_passes ticket (suc number) here r some = refl

pub done_passes : (ticket number : ℕ) (here : List Bool) (r : Rerun) → number ≡ 0 → tick_passed here r ≡ after_line (advanced ticket) number here r
unfolding after_line
done_passes ticket number here r none = rw none

-- Of an offer: its ranks and costs are eight.
eight : (l : List ℕ) → length l ≡ max_stations → to_eight l ≡ l
eight l long = rw long (append-nil l)

pub offered_call : (o : Block) (number ticket : ℕ) → length o.ranks ≡ max_stations → length o.costs ≡ max_stations → call_of (offered o.due_in o.ranks o.costs number ticket) ≡ offering (block_bytes o)
unfolding call_of
offered_call o number ticket ranks costs = rw (eight o.ranks ranks, eight o.costs costs)

-- A call is made, a tick is counted where it passes, and what was given is compared.
pub call_compared : (line : Line) {before mid after : Running} {number out : ℕ} {left reply : List ℕ} {call : Call} {t : Rerun} {same : Bool} → call_of line ≡ call → Gives (perform call before.image.now lent_reply) number left reply → out ≡ word reply reply_ticket_at → t ≡ after_line line number (occupied (decode before.image.now).orders) before.rerun → Leaves before (record { rerun = t; image = left }) mid → Counts mid (compared_by same mid.rerun) after → same ≡ (eqb number (number_of line) && eqb out (ticket_of line)) → Leaves before (ran_line (ran_of before) line) after
unfolding ran_line agrees
call_compared line made given is passed counted compared tested =
    record {
      same = compared.same ∙ counted.same;
      is = compared.is ∙ rw (tested, ap (λ (r : Ran). r.rerun) counted.is, ap (λ (r : Ran). r.image) counted.is, passed, is, made, given.number_is, given.image_is, given.reply_is);
    }
