-- What one more write took follows on what was taken before.
use Rattle.std.proofs.Common.{◌≡◌, ℕ, ◌+◌, ◌-◌, List, ◌++◌, rules, length, take, drop, sym, ap, ◌∙◌, subst}
use Rattle.std.proofs.lemmas.List.{take_rest}
use Rattle.std.specs.Io.KnownBytes.{Appends}
use Rattle.std.proofs.KnownBytes.{Appends-trans}
use lib.Seq.{take-add}
use Rattle.console.proofs.write_all.Goals as goal

take_further : (a n : ℕ) (xs : List ℕ) → take (a + n) xs ≡ take a xs ++ take n (take (length xs - a) (drop a xs))
take_further a n xs = take-add a n xs ∙ ap (λ l. take a xs ++ take n l) (sym (take_rest xs a))

pub loop-done-preserved : goal.loop-done-preserved
loop-done-preserved g c =
    let further = take_further c.loop-done.done c.write_some-n.result c.args.bytes.now in
    (search rules, subst (Appends _ _) (sym further) (Appends-trans _ _ _ _ _ c.loop-done.invariant.1 c.write_some-n.ensures.taken))
