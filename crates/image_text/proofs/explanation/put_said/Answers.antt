-- `put_said` prints what a sound image says. The image is bytes, so its state is in range.
use borrow.Author.Rules.{rules}
use mathlib.Core.Path.{ap, ◌∙◌}
use native.Mathlib.Omega.{arith}
use Rattle.model.specs.Image.{decode}
use Rattle.image.specs.Pipeline.{listed}
use Rattle.image.proofs.Decoded.{readable}
use Rattle.image.proofs.pipeline.TwoForms.{listed_padded}
use Rattle.image_text.proofs.explanation.Rooms.{sound_held}
use Rattle.image_text.proofs.explanation.put_said.Goals as goal

pub decode-requires : goal.decode-requires
decode-requires c = readable c.args.image.now (λ i. search rules) c.requires.0

pub put_state-requires : goal.put_state-requires
put_state-requires c =
    let image = c.args.image.now in
    let h = sound_held image (λ i. search rules) c.requires.0 in
    let d = c.decode.ensures in
    (rw d h.stations, rw d h.live, rw (ap listed d ∙ listed_padded (decode image)) (omega (arith, h.room)))

pub returns-clause-said : goal.returns-clause-said
returns-clause-said c = rw (ap listed c.decode.ensures ∙ listed_padded (decode c.args.image.now)) at c.put_state.ensures

pub returns-clause-within : goal.returns-clause-within
returns-clause-within c =
    let image = c.args.image.now in
    let h = sound_held image (λ i. search rules) c.requires.0 in
    let p = rw (ap listed c.decode.ensures ∙ listed_padded (decode image)) at c.put_state.ensures in
    omega (arith, p.put.place, h.room)
