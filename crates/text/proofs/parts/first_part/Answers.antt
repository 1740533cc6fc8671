use mathlib.Core.Path.{◌≡◌, sym, ◌∙◌}
use borrow.Author.Rules.{rules}
use lib.Dec.{eqb}
use Rattle.std.specs.List.{position}
use Rattle.std.proofs.lemmas.Iterator.{YieldsList-from_slice}
use Rattle.std.proofs.lemmas.Iterator.Search.{position_from_yields_List}
use Rattle.text.proofs.parts.FirstLaws.{first_ends, first_whole}
use Rattle.text.proofs.parts.first_part.Goals as goal

pub returns-in-Some-clause-split : goal.returns-in-Some-clause-split
returns-in-Some-clause-split c =
    let e : c.position.result ≡ position (λ b. eqb b c.args.separator) c.args.text.now =
    position_from_yields_List (λ b. eqb b c.args.separator) _ _ _ c.position.ensures.ran (YieldsList-from_slice c.args.text.now cc) (λ x b q k. search rules) in
    first_ends _ _ _ (sym e ∙ c.in-Some.is)

pub returns-in-None-clause-split : goal.returns-in-None-clause-split
returns-in-None-clause-split c =
    let e : c.position.result ≡ position (λ b. eqb b c.args.separator) c.args.text.now =
    position_from_yields_List (λ b. eqb b c.args.separator) _ _ _ c.position.ensures.ran (YieldsList-from_slice c.args.text.now cc) (λ x b q k. search rules) in
    first_whole _ _ (sym e ∙ c.in-None.is)
