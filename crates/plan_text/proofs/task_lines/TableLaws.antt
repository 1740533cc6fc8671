-- The lines of tasks, one after the other: question 17. A loop that stops before the end has found the reason why the parts are no table.
use mathlib.Core.Path.{◌≡◌, refl, sym, ap, ◌∙◌}
use mathlib.Core.Bool.{true, false, ◌&&◌}
use mathlib.Core.List.{List, [], ◌∷◌, ◌++◌, map, map-append, append_assoc, append-nil}
use Prim.Native.Nat.{ℕ, suc, ◌+◌, ◌-◌, ◌≤◌, ◌<◌}
use native.Mathlib.Omega.{arith}
use lib.Dec.{eqb, leb}
use lib.ListN.{length, set, replicate, length-append, length-map}
use lib.Seq.{append_snoc, set_at}
use borrow.Author.Tests.{eq-eqb, ne_eqb, le-leb, lt-leb}
use Rattle.std.specs.Prelude.{Result, Ok, Err}
use Rattle.model.specs.Lists.{concat, within, all}
use Rattle.lists.proofs.Tests.{and_true, and_false, all_append, all_more}
use Rattle.plan_model.specs.declared.Task.{Task}
use Rattle.plan_model.specs.Limits.{max_tasks}
use Rattle.plan_model.specs.Records.{blank}
use Rattle.plan_model.specs.Input.{is_task_line, is_task_lines, task_at}
use Rattle.text.specs.Parts.{line_feed, parts, last_of, lines_of}
use Rattle.text.proofs.Joined.{cut}
use Rattle.text.proofs.parts.PartLaws.{parts_some}
use Rattle.plan_text.specs.declared.answer.Form.{Form}
use Rattle.plan_text.specs.declared.answer.Form.TheVariants.{NotTasks}
use Rattle.plan_text.specs.Padded.{padded}
use Rattle.plan_text.specs.Answer.{table}
use Rattle.plan_text.specs.TaskLines.{table_of}

-- The lines and the last of some parts that others follow.
last_append : (seen ps : List (List ℕ)) → 0 < length ps → last_of (seen ++ ps) ≡ last_of ps
unfolding last_of
last_append [] ps h = refl
last_append (p ∷ []) [] h = absurd (omega arith)
last_append (p ∷ []) (q ∷ ps) h = refl
last_append (p ∷ q ∷ seen) ps h = last_append (q ∷ seen) ps h

lines_append : (seen ps : List (List ℕ)) → 0 < length ps → lines_of (seen ++ ps) ≡ seen ++ lines_of ps
unfolding lines_of
lines_append [] ps h = refl
lines_append (p ∷ []) [] h = absurd (omega arith)
lines_append (p ∷ []) (q ∷ ps) h = refl
lines_append (p ∷ q ∷ seen) ps h = ap (λ (l : List (List ℕ)). p ∷ l) (lines_append (q ∷ seen) ps h)

one_line : (line : List ℕ) (ps : List (List ℕ)) → 0 < length ps → lines_of (line ∷ ps) ≡ line ∷ lines_of ps
one_line line ps h = lines_append (line ∷ []) ps h

-- A text of one part is that part.
pub alone : (separator : ℕ) (text part : List ℕ) → parts separator text ≡ part ∷ [] → text ≡ part
unfolding concat
alone separator text part e =
    let c = cut separator text in
    let both : c.first ∷ c.later ≡ part ∷ [] = sym c.split ∙ e in
    let first : c.first ≡ part = cc in
    let later : c.later ≡ [] = cc in
    c.whole ∙ rw (first, later) (append-nil part)

-- The lines so far have the form, and their tasks stand at the front of the array; `left` are the parts after them.
pub record Reading (n : ℕ) (ps : List (List ℕ)) (tasks : List Task) (count : ℕ) (left : List (List ℕ)) : Type 0 where
  pub seen : List (List ℕ)
  pub split : ps ≡ seen ++ left
  pub form : all (is_task_line n) seen ≡ true
  pub many : length seen ≡ count
  pub read : tasks ≡ padded max_tasks blank (map task_at seen)
  pub few : count ≤ max_tasks

pub reading_none : (n : ℕ) (ps : List (List ℕ)) → Reading n ps (replicate max_tasks blank) 0 ps
unfolding all padded
reading_none n ps = record { seen = []; split = refl; form = refl; many = refl; read = refl; few = omega arith }

module _ {n : ℕ} {ps : List (List ℕ)} {tasks : List Task} {count : ℕ} {left : List (List ℕ)} (r : Reading n ps tasks count left) where
  -- Parts are no table by what follows the last line feed, by how many lines there are, or by what one of them says.
  no_table : is_task_lines n ps ≡ false → Err NotTasks ≡ table_of n ps
  unfolding table_of
  no_table e = rw e

  by_last : (length (last_of ps) ≡ 0 → ⊥) → Err NotTasks ≡ table_of n ps
  unfolding is_task_lines
  by_last e = no_table (rw (ne_eqb (length (last_of ps)) 0 e))

  by_count : within 1 max_tasks (length (lines_of ps)) ≡ false → Err NotTasks ≡ table_of n ps
  unfolding is_task_lines
  by_count e = no_table (rw (e, and_false (eqb (length (last_of ps)) 0)))

  by_line : all (is_task_line n) (lines_of ps) ≡ false → Err NotTasks ≡ table_of n ps
  unfolding is_task_lines
  by_line e = no_table (rw (e, and_false (eqb (length (last_of ps)) 0 && within 1 max_tasks (length (lines_of ps)))))

  -- A line feed ends the next line.
  module _ (line text : List ℕ) (next : left ≡ line ∷ parts line_feed text) where
    lines_are : lines_of ps ≡ r.seen ++ (line ∷ lines_of (parts line_feed text))
    lines_are = ap lines_of (r.split ∙ ap (λ (l : List (List ℕ)). r.seen ++ l) next) ∙ lines_append r.seen (line ∷ parts line_feed text) (omega arith) ∙ rw (one_line line (parts line_feed text) (parts_some line_feed text))

    pub other_line : is_task_line n line ≡ false → Err NotTasks ≡ table_of n ps
    unfolding all
    other_line e = by_line (rw (lines_are, all_append (is_task_line n) r.seen (line ∷ lines_of (parts line_feed text)), e, and_false (all (is_task_line n) r.seen)))

    pub full : max_tasks ≤ count → Err NotTasks ≡ table_of n ps
    full e =
        let many : max_tasks < length (lines_of ps) = omega (arith, r.many, ap length lines_are, length-append r.seen (line ∷ lines_of (parts line_feed text))) in
        by_count (rw (lt-leb (length (lines_of ps)) max_tasks many, and_false (leb 1 (length (lines_of ps)))))

    pub reading_more : {task : Task} → is_task_line n line ≡ true → task ≡ task_at line → count < max_tasks → Reading n ps (set tasks count task) (count + 1) (parts line_feed text)
    unfolding padded
    reading_more {task} form is room =
        let so_far = map task_at r.seen in
        let long : length so_far ≡ count = length-map r.seen task_at ∙ r.many in
        let longer : length (so_far ++ (task ∷ [])) ≡ count + 1 = length-append so_far (task ∷ []) ∙ rw long in
        let after : ℕ = max_tasks - (count + 1) in
        let m : max_tasks - count ≡ suc after = omega arith in
        record {
          seen = r.seen ++ (line ∷ []);
          split = r.split ∙ rw (next, append_assoc);
          form = rw (all_more (is_task_line n) r.seen line, r.form, form);
          many = length-append r.seen (line ∷ []) ∙ rw r.many;
          read = rw (map-append task_at r.seen (line ∷ []), ← is, r.read, longer, long, m, set_at so_far blank (replicate after blank) task count long) (sym (append_snoc so_far task (replicate after blank)));
          few = omega arith;
        }

  -- The last part follows.
  module _ (last : List ℕ) (ends : left ≡ last ∷ []) where
    lines_seen : lines_of ps ≡ r.seen
    unfolding lines_of
    lines_seen = ap lines_of (r.split ∙ ap (λ (l : List (List ℕ)). r.seen ++ l) ends) ∙ lines_append r.seen (last ∷ []) (omega arith) ∙ append-nil r.seen

    last_is : last_of ps ≡ last
    unfolding last_of
    last_is = ap last_of (r.split ∙ ap (λ (l : List (List ℕ)). r.seen ++ l) ends) ∙ last_append r.seen (last ∷ []) (omega arith)

    pub no_line : count ≡ 0 → Err NotTasks ≡ table_of n ps
    no_line e =
        let none : length (lines_of ps) < 1 = omega (arith, ap length lines_seen, r.many) in
        by_count (rw (lt-leb 1 (length (lines_of ps)) none))

    pub unended : (length last ≡ 0 → ⊥) → Err NotTasks ≡ table_of n ps
    unended e = by_last (rw last_is e)

    pub all_lines : (count ≡ 0 → ⊥) → length last ≡ 0 → Ok (record { n = n; count = count; tasks = tasks }) ≡ table_of n ps
    unfolding table_of is_task_lines table
    all_lines some none =
        let long : length (map task_at r.seen) ≡ count = length-map r.seen task_at ∙ r.many in
        rw (last_is, eq-eqb (length last) 0 none, lines_seen, r.many, le-leb 1 count (omega arith), le-leb count max_tasks r.few, r.form, long, r.read)
