-- An entry is idle where it is the default, (0, 0).
use mathlib.Core.Path.{◌≡◌, ◌∙◌}
use native.Mathlib.Omega.{arith}
use Rattle.model.specs.Soundness.{is_idle}
use Rattle.text.proofs.Printing.{◌then◌}
use Rattle.image_text.proofs.report.Lengths.{words_idle, words_busy, length_busy}
use Rattle.image_text.proofs.report.put_service.Goals as goal

pub returns-then-eq : goal.returns-then-eq
unfolding is_idle
returns-then-eq c =
    let e : is_idle c.args.e ≡ c.eq.result = rw (c.eq.ensures, c.default.ensures.0, c.default.ensures.1) in
    rw (words_idle _ (e ∙ c.if-eq.true)) c.bytes.ensures

pub figure-requires : goal.figure-requires
unfolding is_idle
figure-requires c =
    let e : is_idle c.args.e ≡ c.eq.result = rw (c.eq.ensures, c.default.ensures.0, c.default.ensures.1) in
    rw c.from.ensures (omega (arith, length_busy c.args.e (e ∙ c.if-eq.false)))

pub figure-requires-2 : goal.figure-requires-2
unfolding is_idle
figure-requires-2 c =
    let e : is_idle c.args.e ≡ c.eq.result = rw (c.eq.ensures, c.default.ensures.0, c.default.ensures.1) in
    let first = rw c.from.ensures at c.figure.ensures in
    rw c.from-2.ensures (omega (arith, length_busy c.args.e (e ∙ c.if-eq.false), first.put.place, first.room))

pub returns : goal.returns
unfolding is_idle
returns c =
    let e : is_idle c.args.e ≡ c.eq.result = rw (c.eq.ensures, c.default.ensures.0, c.default.ensures.1) in
    rw (words_busy _ (e ∙ c.if-eq.false), ← c.from.ensures, ← c.from-2.ensures) (c.figure.ensures then c.figure-2.ensures)
