-- A reply of another length is untouched; one of its length holds the first "no" of questions 2 to 5, or what the block comes to.
use mathlib.Core.Path.{◌≡◌, refl, sym}
use borrow.Author.Rules.{rules}
use Rattle.dispatcher.proofs.replies.Declines.{refused, gives_back}
use Rattle.dispatcher.proofs.offer_parts.OfferLaws.{offer_untouched, length_no, sound_lem, three_no, three_yes, offer_taken_lem, offer_declined}
use Rattle.dispatcher.proofs.offer.dispatcher_offer.Goals as goal

pub returns-in_default : goal.returns-in_default
returns-in_default c = gives_back (offer_untouched _ _ c.args.reply.now (search rules)) c.from.ensures (search rules) (search rules)

pub returns-in_default-as_mut_array : goal.returns-in_default-as_mut_array
returns-in_default-as_mut_array c =
    gives_back (offer_declined c.args.image.now c.args.order.now c.args.reply.now (search rules) 2 (three_no _ _ 2 (length_no _ (search rules)) (λ e. cc)) (λ e. cc)) c.put_answer.ensures.number (search rules) (search rules)

pub returns-in-Err : goal.returns-in-Err
returns-in-Err c =
    let is : c.in-Some-as_mut_array.image.now ≡ c.args.image.now = search rules in
    gives_back (offer_declined c.args.image.now c.args.order.now c.args.reply.now (search rules) _ (three_no _ _ _ (rw is at c.in-Err.ensures) (refused _)) (refused _)) c.put_answer-in-Err.ensures.number (search rules) (search rules)

pub offered-requires : goal.offered-requires
offered-requires c = sound_lem _ (sym c.in_default-sound_image.ensures)

pub returns-in-Ok : goal.returns-in-Ok
returns-in-Ok c =
    let lent : c.in-Some.reply.now ≡ c.args.reply.now = search rules in
    let is : c.in-Some-as_mut_array.image.now ≡ c.args.image.now = search rules in
    let zero = sym (three_yes _ _ 0 (rw is at (sym c.in_default-sound_image.ensures)) c.in-Ok.ensures.number) in
    gives_back (rw (lent, is, c.in-Ok.ensures.block, offer_taken_lem c.args.image.now c.args.order.now c.args.reply.now (search rules) zero) at c.offered.ensures) refl (search rules) (search rules)

pub returns-in-Err-lent_block : goal.returns-in-Err-lent_block
returns-in-Err-lent_block c =
    let is : c.in-Some-as_mut_array.image.now ≡ c.args.image.now = search rules in
    gives_back (offer_declined c.args.image.now c.args.order.now c.args.reply.now (search rules) _ (three_yes _ _ _ (rw is at (sym c.in_default-sound_image.ensures)) c.in-Err-lent_block.ensures.number) (refused _)) c.put_answer-in-Err-lent_block.ensures.number (search rules) (search rules)
