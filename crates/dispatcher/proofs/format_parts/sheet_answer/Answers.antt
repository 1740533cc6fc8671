-- The three questions in turn.
use mathlib.Core.Path.{sym, ◌∙◌}
use Rattle.model.specs.Formats.{speeds}
use Rattle.dispatcher.proofs.format_parts.SheetLaws.{length_no, format_no, speed_no, sheet_yes}
use Rattle.dispatcher.proofs.format_parts.sheet_answer.Goals as goal

pub returns-then-sheet-ne-SHEET_SIZE : goal.returns-then-sheet-ne-SHEET_SIZE
returns-then-sheet-ne-SHEET_SIZE c = length_no _ _ _ c.if-sheet-ne-SHEET_SIZE.true

pub returns-then-format : goal.returns-then-format
returns-then-format c = format_no _ _ _ c.if-sheet-ne-SHEET_SIZE.false c.if-format.true

pub returns-then-not-moving : goal.returns-then-not-moving
unfolding speeds
returns-then-not-moving c =
    speed_no _ _ _ c.if-sheet-ne-SHEET_SIZE.false c.if-format.false (rw (← c.eight_halves_at.ensures) (sym c.moving.ensures ∙ c.if-not-moving.true))

pub returns : goal.returns
unfolding speeds
returns c =
    sheet_yes _ _ _ c.if-sheet-ne-SHEET_SIZE.false c.if-format.false (rw (← c.eight_halves_at.ensures) (sym c.moving.ensures ∙ c.if-not-moving.false))
