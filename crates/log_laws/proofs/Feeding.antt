-- Bytes that are fed one after the other are fed line by line. By going down the bytes: a line feed ends the line that is held, and another byte is held
-- while there is room, so that of each line its first 220 bytes count.
use mathlib.Core.Path.{◌≡◌, refl, sym, ap, ◌∙◌}
use mathlib.Core.Bool.{Bool, true, false, cond}
use mathlib.Core.List.{List, [], ◌∷◌, ◌++◌, map, foldl, append-nil}
use Prim.Native.Nat.{ℕ, ◌+◌, ◌≤◌, ◌<◌, min}
use native.Mathlib.Numerals.{add-one}
use native.Mathlib.Omega.{arith}
use lib.ListN.{length, take, set, length-append, length-set}
use lib.Seq.{take_all, take-append-le, take-suc-set, append_snoc}
use lib.Dec.{ltb, eqb}
use borrow.Author.Tests.{ltb-true, ltb-false}
use Rattle.model.specs.Lists.{concat}
use Rattle.text.specs.Parts.{line_feed, placed, parts, last_of, lines_of}
use Rattle.text.proofs.parts.PartLaws.{parts_some}
use Rattle.schedule.proofs.Laws.{by_cond}
use Rattle.log_model.specs.declared.Reading.{Reading}
use Rattle.log_model.specs.Limits.{max_line}
use Rattle.log_model.specs.Reading.{Ran, line_ended, Fed, held_line, holding, fed_line_feed, fed_byte, fed_all, begun}
use Rattle.log_model.proofs.Feeding.{fed_append}
use Rattle.log_laws.specs.Meaning.{WhateverChunks}

pub whatever_chunks : WhateverChunks
unfolding concat fed_all
whatever_chunks f [] = refl
whatever_chunks f (chunk ∷ chunks) = whatever_chunks (fed_all f chunk) chunks ∙ sym (fed_append f chunk (concat chunks))

-- ---- the line that is held
unfoldable pub cut : List ℕ → List ℕ
cut line = take max_line line

-- The bytes p of a line have been fed.
pub record Holds (r : Reading) (p : List ℕ) : Type 0 where
  pub line : held_line r ≡ cut p
  pub count : r.held ≡ min (length p) max_line
  pub room : length r.pending ≡ max_line

module _ (r : Reading) (p : List ℕ) (h : Holds r p) (b : ℕ) where
  abbrev longer : Reading
  longer = record { rerun = r.rerun; pending = set r.pending r.held b; held = r.held + 1 }

  one_more_lem : length (p ++ (b ∷ [])) ≡ length p + 1
  one_more_lem = length-append p (b ∷ [])

  holds_longer : r.held < max_line → Holds longer (p ++ (b ∷ []))
  unfolding held_line cut
  holds_longer room =
      let whole : cut p ≡ p = take_all max_line p (omega (arith, h.count)) in
      let longer_whole : cut (p ++ (b ∷ [])) ≡ p ++ (b ∷ []) = take_all max_line (p ++ (b ∷ [])) (omega (arith, h.count, one_more_lem)) in
      record {
        line = rw (add-one, take-suc-set r.pending r.held b (omega (arith, h.room)), h.line, whole, longer_whole);
        count = omega (arith, h.count, one_more_lem);
        room = length-set r.pending r.held b ∙ h.room;
      }

  holds_full : max_line ≤ r.held → Holds r (p ++ (b ∷ []))
  unfolding cut
  holds_full full =
      record {
        line = h.line ∙ sym (take-append-le max_line p (b ∷ []) (omega (arith, h.count)));
        count = omega (arith, h.count, one_more_lem);
        room = h.room;
      }

  holds_more : Holds (holding r b) (p ++ (b ∷ []))
  unfolding holding
  holds_more = go (ltb r.held max_line) refl
    where
      go : (t : Bool) → ltb r.held max_line ≡ t → Holds (cond t longer r) (p ++ (b ∷ []))
      go true e = holds_longer (ltb-true r.held max_line e)
      go false e = holds_full (ltb-false r.held max_line e)

holding_rerun : (r : Reading) (b : ℕ) → (holding r b).rerun ≡ r.rerun
unfolding holding
holding_rerun r b = by_cond (λ (q : Reading). q.rerun ≡ r.rerun) (ltb r.held max_line) refl refl

-- ---- line by line
abbrev pub ran_in : Fed → Ran
ran_in f = record { rerun = f.reading.rerun; image = f.image }

abbrev pub after_lines : Ran → List (List ℕ) → Ran
after_lines s lines = foldl line_ended s (map cut lines)

-- From f to g the lines of these parts have ended, and the last part is held.
pub record FedParts (f : Fed) (ps : List (List ℕ)) (g : Fed) : Type 0 where
  pub ran : ran_in g ≡ after_lines (ran_in f) (lines_of ps)
  pub holds : Holds g.reading (last_of ps)

-- Parts with the bytes p before them; what is held once one byte more is fed, by whether it is a line feed; the state then.
abbrev onto : List ℕ → List (List ℕ) → List (List ℕ)
onto p [] = []
onto p (q ∷ qs) = (p ++ q) ∷ qs

abbrev held_then : Bool → List ℕ → ℕ → List ℕ
held_then t p b = cond t [] (p ++ (b ∷ []))

abbrev fed_then : Bool → Fed → ℕ → Fed
fed_then t f b = cond t (fed_line_feed f) (record { reading = holding f.reading b; image = f.image })

module _ (f : Fed) (p : List ℕ) (h : Holds f.reading p) where
  fed_none : FedParts f ((p ++ []) ∷ []) f
  unfolding lines_of last_of
  fed_none = record { ran = refl; holds = rw append-nil h }

  ended_ran : ran_in (fed_line_feed f) ≡ line_ended (ran_in f) (cut p)
  unfolding fed_line_feed
  ended_ran = ap (line_ended (ran_in f)) h.line

  ended_holds : Holds (fed_line_feed f).reading []
  unfolding fed_line_feed held_line cut
  ended_holds = record { line = refl; count = refl; room = h.room }

  fed_ended : (q : List ℕ) (qs : List (List ℕ)) (g : Fed) → FedParts (fed_line_feed f) (q ∷ qs) g → FedParts f ((p ++ []) ∷ q ∷ qs) g
  unfolding lines_of last_of
  fed_ended q qs g i = record { ran = i.ran ∙ rw (append-nil p, ended_ran); holds = i.holds }

  fed_held : (b : ℕ) (q : List ℕ) (qs : List (List ℕ)) (g : Fed) → FedParts (fed_then false f b) ((p ++ (b ∷ []) ++ q) ∷ qs) g → FedParts f ((p ++ (b ∷ q)) ∷ qs) g
  fed_held b q qs g i = rw (← append_snoc p b q) (record { ran = i.ran ∙ rw (holding_rerun f.reading b); holds = i.holds })

  step_holds : (t : Bool) (b : ℕ) → Holds (fed_then t f b).reading (held_then t p b)
  step_holds true b = ended_holds
  step_holds false b = holds_more f.reading p h b

  fed_step : (t : Bool) (b : ℕ) (ps : List (List ℕ)) (g : Fed) → 0 < length ps
      → FedParts (fed_then t f b) (onto (held_then t p b) ps) g → FedParts f (onto p (placed t b ps)) g
  fed_step t b [] g some i = absurd (omega arith)
  fed_step true b (q ∷ qs) g some i = fed_ended q qs g i
  fed_step false b (q ∷ qs) g some i = fed_held b q qs g i

fed_parts : (bytes : List ℕ) (f : Fed) (p : List ℕ) → Holds f.reading p → FedParts f (onto p (parts line_feed bytes)) (fed_all f bytes)
unfolding parts fed_all fed_byte
fed_parts [] f p h = fed_none f p h
fed_parts (b ∷ bytes) f p h =
    let t = eqb b line_feed in
    fed_step f p h t b (parts line_feed bytes) (fed_all (fed_byte f b) bytes) (parts_some line_feed bytes)
    (fed_parts bytes (fed_byte f b) (held_then t p b) (step_holds f p h t b))

-- ---- all bytes of a log
begun_holds : Holds begun []
unfolding begun held_line cut
begun_holds = record { line = refl; count = refl; room = refl }

onto_nothing : (ps : List (List ℕ)) → onto [] ps ≡ ps
onto_nothing [] = refl
onto_nothing (q ∷ qs) = refl

abbrev pub start : List ℕ → Fed
start image = record { reading = begun; image = image }

pub fed_log : (image log : List ℕ) → FedParts (start image) (parts line_feed log) (fed_all (start image) log)
fed_log image log = rw (onto_nothing (parts line_feed log)) at (fed_parts log (start image) [] begun_holds)
