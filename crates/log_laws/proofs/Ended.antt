-- Lines that are ended one after the other: the text has these lines and nothing after them; and a text with nothing after its last line feed is its lines, ended.
-- By going down the lines.
use mathlib.Core.Path.{◌≡◌, refl, sym, ap, ◌∙◌}
use mathlib.Core.Bool.{true}
use mathlib.Core.List.{List, [], ◌∷◌, ◌++◌}
use Prim.Native.Nat.{ℕ}
use Rattle.model.specs.Lists.{concat, all}
use Rattle.text.specs.Parts.{line_feed, parts, last_of, lines_of, lines}
use Rattle.lists.proofs.Tests.{and_both}
use Rattle.text.proofs.Joined.{without, separated, parts_before, cut}
use Rattle.log_model.specs.Written.{ended}

parts_ended : (ls : List (List ℕ)) → all (without line_feed) ls ≡ true → parts line_feed (ended ls) ≡ ls ++ ([] ∷ [])
unfolding ended all parts
parts_ended [] e = refl
parts_ended (line ∷ ls) e =
    let both = and_both (without line_feed line) (all (without line_feed) ls) e in
    parts_before line_feed line (ended ls) both.0 ∙ rw (parts_ended ls both.1)

lines_before : (ls : List (List ℕ)) (last : List ℕ) → lines_of (ls ++ (last ∷ [])) ≡ ls
unfolding lines_of
lines_before [] last = refl
lines_before (line ∷ []) last = refl
lines_before (line ∷ next ∷ ls) last = ap (λ (l : List (List ℕ)). line ∷ l) (lines_before (next ∷ ls) last)

last_after : (ls : List (List ℕ)) (last : List ℕ) → last_of (ls ++ (last ∷ [])) ≡ last
unfolding last_of
last_after [] last = refl
last_after (line ∷ []) last = refl
last_after (line ∷ next ∷ ls) last = last_after (next ∷ ls) last

module _ (ls : List (List ℕ)) (clean : all (without line_feed) ls ≡ true) where
  pub lines_ended : lines (ended ls) ≡ ls
  unfolding lines
  lines_ended = rw (parts_ended ls clean) (lines_before ls [])

  pub none_after : last_of (parts line_feed (ended ls)) ≡ []
  none_after = rw (parts_ended ls clean) (last_after ls [])

ended_joined : (first : List ℕ) (later : List (List ℕ)) → last_of (first ∷ later) ≡ [] → ended (lines_of (first ∷ later)) ≡ first ++ separated line_feed later
unfolding ended lines_of last_of concat
ended_joined first [] e = rw e
ended_joined first (next ∷ later) e = rw (ended_joined next later e)

pub ended_lines : (log : List ℕ) → last_of (parts line_feed log) ≡ [] → ended (lines log) ≡ log
unfolding lines
ended_lines log e =
    let c = cut line_feed log in
    rw c.split (ended_joined c.first c.later (rw c.split at e) ∙ sym c.whole)
