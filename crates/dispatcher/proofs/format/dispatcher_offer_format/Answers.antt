-- A reply of another length is untouched; one of its length holds the first "no" of questions 2 to 5, 19 and 20, or what the block comes to.
use mathlib.Core.Path.{◌≡◌, refl, sym}
use borrow.Author.Rules.{rules}
use Rattle.model.specs.Formats.{FormatOrder}
use Rattle.dispatcher.proofs.replies.Declines.{refused, gives_back}
use Rattle.dispatcher.proofs.offer_parts.OfferLaws.{length_no, sound_lem, three_no, three_yes}
use Rattle.dispatcher.proofs.format_parts.SheetLaws.{readable, offer_untouched, offer_taken_lem, offer_declined}
use Rattle.dispatcher.proofs.format_parts.HeldLaws.{offer_held}
use Rattle.dispatcher.proofs.format.dispatcher_offer_format.Goals as goal

pub returns-in_default : goal.returns-in_default
returns-in_default c =
    let order : FormatOrder = record { format = c.args.format; due_in = c.args.due_in; rank = c.args.rank; sheet = c.args.sheet.now } in
    gives_back (offer_untouched c.args.image.now order c.args.reply.now (search rules)) c.from.ensures (search rules) (search rules)

pub returns-in_default-as_mut_array : goal.returns-in_default-as_mut_array
returns-in_default-as_mut_array c =
    let order : FormatOrder = record { format = c.args.format; due_in = c.args.due_in; rank = c.args.rank; sheet = c.args.sheet.now } in
    gives_back (offer_declined c.args.image.now order c.args.reply.now (search rules) 2 (three_no _ _ 2 (length_no _ (search rules)) (λ e. cc)) (λ e. cc)) c.put_answer.ensures.number (search rules) (search rules)

pub returns-in-Err : goal.returns-in-Err
returns-in-Err c =
    let order : FormatOrder = record { format = c.args.format; due_in = c.args.due_in; rank = c.args.rank; sheet = c.args.sheet.now } in
    let is : c.in-Some-as_mut_array.image.now ≡ c.args.image.now = search rules in
    gives_back (offer_declined c.args.image.now order c.args.reply.now (search rules) _ (three_no _ _ _ (rw is at c.in-Err.ensures) (refused _)) (refused _)) c.put_answer-in-Err.ensures.number (search rules) (search rules)

pub format_block-requires : goal.format_block-requires
format_block-requires c = sound_lem _ (sym c.in_default-sound_image.ensures)

pub offered-requires : goal.offered-requires
offered-requires c = sound_lem _ (sym c.in_default-sound_image.ensures)

pub returns-in-Ok : goal.returns-in-Ok
returns-in-Ok c =
    let order : FormatOrder = record { format = c.args.format; due_in = c.args.due_in; rank = c.args.rank; sheet = c.args.sheet.now } in
    let lent : c.in-Some.reply.now ≡ c.args.reply.now = search rules in
    let is : c.in-Some-as_mut_array.image.now ≡ c.args.image.now = search rules in
    let three = rw is at (sym c.in_default-sound_image.ensures) in
    let early = rw is at c.in-Ok.ensures.number in
    let zero = sym (three_yes _ _ 0 three early) in
    gives_back (rw (c.in-Ok.ensures.block, lent, is, offer_held _ order c.args.reply.now (readable _ order (sound_lem _ three) (sym early)), offer_taken_lem c.args.image.now order c.args.reply.now (search rules) zero) at c.offered.ensures) refl (search rules) (search rules)

pub returns-in-Err-format_block : goal.returns-in-Err-format_block
returns-in-Err-format_block c =
    let order : FormatOrder = record { format = c.args.format; due_in = c.args.due_in; rank = c.args.rank; sheet = c.args.sheet.now } in
    let is : c.in-Some-as_mut_array.image.now ≡ c.args.image.now = search rules in
    gives_back (offer_declined c.args.image.now order c.args.reply.now (search rules) _ (three_yes _ _ _ (rw is at (sym c.in_default-sound_image.ensures)) (rw is at c.in-Err-format_block.ensures.number)) (refused _)) c.put_answer-in-Err-format_block.ensures.number (search rules) (search rules)
