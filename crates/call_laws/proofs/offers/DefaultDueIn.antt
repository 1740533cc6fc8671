-- The calls look at a block's costs and ranks, its due tick, and whether its due-in is in range: with due-in 0 and with the default these are the same, by computation.
use mathlib.Core.Path.{refl}
use Rattle.model.specs.Bytes.{eight_bytes, eight_halves}
use Rattle.model.specs.Admission.{block_of, due_of, arrival, joined_by, joined_live, accept, smallest_margin, block_length_question, block_questions, state_questions, order_questions, offer_answer, quote_answer}
use Rattle.model.specs.Formats.{format_block, format_cost, format_order_questions}
use Rattle.model.specs.Calls.{offer_number, quote_call, offer_call, format_number, quote_format_call, offer_format_call}
use Rattle.call_laws.specs.DefaultDueIn.{ZeroStandsForDefault}

pub zero_stands_for_default : ZeroStandsForDefault
unfolding eight_bytes eight_halves block_of due_of arrival joined_by joined_live accept smallest_margin block_length_question block_questions state_questions order_questions offer_answer quote_answer format_block format_cost format_order_questions offer_number quote_call offer_call format_number quote_format_call offer_format_call
zero_stands_for_default image reply = record { quotes = λ rest. refl; offers = λ rest. refl; format_quotes = λ f. refl; format_offers = λ f. refl }
