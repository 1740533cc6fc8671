-- What an offer and a quote by format return: the questions in turn, whose answers are facts. Where the order can be written as a block, they are the block's, and so
-- is what the calls leave.
use mathlib.Core.Path.{◌≡◌, refl, sym, ◌∙◌}
use mathlib.Core.Logic.{◌⊎◌, inl, inr, ◌≢◌}
use mathlib.Core.Bool.{Bool, true, false, ◌&&◌, true≢false}
use mathlib.Core.List.{List, [], ◌∷◌, ◌++◌}
use Prim.Native.Nat.{ℕ, zero, suc, ◌≤◌, ◌<◌}
use native.Mathlib.Omega.{arith}
use lib.ListN.{length, take, drop}
use lib.Dec.{leb, eqb}
use borrow.Author.Tests.{eq-eqb, ne_eqb, eqb-false, le-leb, lt-leb, leb-false}
use Rattle.model.specs.declared.Block.{Block}
use Rattle.model.specs.Limits.{max_stations, max_cost, max_due_in, max_format}
use Rattle.model.specs.Lists.{at, within, all}
use Rattle.model.specs.Bytes.{eight_halves}
use Rattle.model.specs.Layout.{sheet_size, block_size}
use Rattle.model.specs.Image.{decode}
use Rattle.model.specs.Soundness.{costs_in_range, zero_beyond}
use Rattle.model.specs.Questions.{Question, ◌else◌, first_no}
use Rattle.model.specs.Admission.{block_bytes, block_length_question, block_questions, state_questions, order_questions}
use Rattle.model.specs.Formats.{FormatOrder, speeds, long_sides, long_side, format_cost, format_block, format_questions, format_order_questions}
use Rattle.model.specs.Calls.{reply_question, length_question, image_questions, offer_number, offer_call, quote_call, format_number, offer_format_call, quote_format_call}
use Rattle.lists.proofs.Questions.{answer, gives_other, decides, after, same_after, spares, never}
use Rattle.lists.proofs.Rounding.{up_some}
use Rattle.schedule.proofs.Laws.{test}
use Rattle.image_laws.specs.Iff.{◌⇔◌}
use Rattle.image_laws.specs.Usable.{Usable}
use Rattle.image_laws.proofs.Tests.{Says, leb_says, eqb_says, within_says, in_words, and_says, first_say, append_says}
use Rattle.image_laws.proofs.Clauses.{zero_beyond_lem, costs_say}
use Rattle.image_laws.proofs.Questions.{first_no_lem, four_say}
use Rattle.call_laws.specs.FormatExact.{Known, Unknown, Readable, Writable, FormatAsBlock}
use Rattle.call_laws.proofs.offers.Questions.{Decided, few_stations}
use Rattle.call_laws.proofs.formats.Block.{format_costs_eight, format_cost_lem, format_beyond, few_moving, format_read, format_length}

-- A question's "no" gives its number where no question after it does.
own_no : (b : Bool) (k : ℕ) (rest : List Question) → 1 ≤ k → all (spares k) rest ≡ true → (first_no ((b else k) ∷ rest) ≡ k) ⇔ (b ≡ false)
unfolding first_no
own_no true k rest some others = record { only = λ e. absurd (never k some rest others e); if = λ e. absurd (true≢false e) }
own_no false k rest some others = record { only = λ e. refl; if = λ e. refl }

-- Of the first n entries one fails where not all pass.
one_fails : (p : ℕ → Bool) (n : ℕ) (l : List ℕ) → all p (take n l) ≡ false → (k : ℕ) × (1 ≤ k) × (k ≤ n) × (p (at 0 l k) ≡ false)
unfolding all
one_fails p zero l e = absurd (true≢false e)
one_fails p (suc n) [] e = absurd (true≢false e)
one_fails p (suc n) (x ∷ l) e =
    elim (test (p x)) [
      | inl t ↦ let w = one_fails p n l (rw t at e) in (suc w.0, omega arith, omega (arith, w.2), next w.0 w.1 w.3)
      | inr t ↦ (1, omega arith, omega arith, t)
    ]
  where
    next : (k : ℕ) → 1 ≤ k → p (at 0 l k) ≡ false → p (at 0 (x ∷ l) (suc k)) ≡ false
    next zero low h = absurd (let w : ⊥ = omega arith in w)
    next (suc i) low h = h

-- Questions whose answers are facts.
one_says : {a : Bool} {P : Type 0} (i : ℕ) → Says a P → Says (all answer ((a else i) ∷ [])) P
unfolding all answer
one_says i p = in_words (and_says p (record { tells = λ e. tt; passes = λ (u : Unit {0}). refl })) (λ t. t.0) (λ x. (x, tt))

two_say : {a b : Bool} {P Q : Type 0} (i j : ℕ) → Says a P → Says b Q → Says (all answer ((a else i) ∷ (b else j) ∷ [])) (P × Q)
unfolding all answer
two_say i j p q = and_says p (one_says j q)

-- Every long side is 1 mm or more, so a cost of an order that can be read is 1 tick or more.
side_some : (f : FormatOrder) → Known f → 1 ≤ long_side f.format
unfolding long_side all
side_some f known = (first_say (leb 1) (λ v. 1 ≤ v) (leb_says 1) 0 max_format long_sides (omega arith)).tells refl f.format known.0 known.1

cost_some : (n : ℕ) (f : FormatOrder) → Readable n f → (k : ℕ) → 1 ≤ k → k ≤ n → 1 ≤ format_cost f k
unfolding format_cost
cost_some n f r k low high =
    let up = up_some (long_side f.format) (at 0 (speeds f.sheet) k) (side_some f r.known) (r.moving k low high) in
    omega (arith, up)

module _ (n : ℕ) (f : FormatOrder) where
  sheet_says : Says (eqb (length f.sheet) sheet_size) (length f.sheet ≡ sheet_size)
  sheet_says = eqb_says (length f.sheet) sheet_size

  known_says : Says (within 1 max_format f.format) (Known f)
  known_says = within_says 1 max_format f.format

  module _ (few : n ≤ max_stations) where
    moving_says : Says (all (leb 1) (take n (speeds f.sheet))) ((k : ℕ) → 1 ≤ k → k ≤ n → 1 ≤ at 0 (speeds f.sheet) k)
    unfolding speeds eight_halves
    moving_says = first_say (leb 1) (λ v. 1 ≤ v) (leb_says 1) 0 n (speeds f.sheet) few

    -- 5, 19 and 20.
    pub three_say : Says (all answer (format_questions n f.format f.sheet)) (Readable n f)
    unfolding format_questions all answer
    three_say =
        in_words (and_says sheet_says (two_say 19 20 known_says moving_says))
        (λ t. record { sheet_whole = t.0; known = t.1.0; moving = t.1.1 })
        (λ r. (r.sheet_whole, (r.known, r.moving)))

  -- Question 6 asks for the costs alone: the block has zeros beyond n.
  block_question : (costs_in_range n (format_block n f).costs && zero_beyond n (format_block n f).costs && zero_beyond n (format_block n f).ranks) ≡ costs_in_range n (format_block n f).costs
  block_question =
      let b = format_block n f in
      rw ((zero_beyond_lem n b.costs).passes (format_beyond n f).0, (zero_beyond_lem n b.ranks).passes (format_beyond n f).1)
      (elim (test (costs_in_range n b.costs)) [ inl t ↦ rw t | inr t ↦ rw t ])

  -- A cost out of range is one above the largest.
  module _ (r : Readable n f) where
    few : n ≤ max_stations
    few = few_moving n f r

    pub costs_are : Says (costs_in_range n (format_block n f).costs) ((k : ℕ) → 1 ≤ k → k ≤ n → (1 ≤ at 0 (format_block n f).costs k) × (at 0 (format_block n f).costs k ≤ max_cost))
    costs_are = costs_say n (format_block n f).costs (rw (format_costs_eight n f) few)

    pub one_above : (costs_in_range n (format_block n f).costs ≡ false) ⇔ ((k : ℕ) × (1 ≤ k) × (k ≤ n) × (max_cost < format_cost f k))
    one_above = record { only = only; if = back }
      where
        above : (c : ℕ) → 1 ≤ c → within 1 max_cost c ≡ false → max_cost < c
        above c some e = leb-false c max_cost (rw (le-leb 1 c some) at e)

        only : costs_in_range n (format_block n f).costs ≡ false → (k : ℕ) × (1 ≤ k) × (k ≤ n) × (max_cost < format_cost f k)
        only e =
            let w = one_fails (within 1 max_cost) n (format_block n f).costs (unfold costs_in_range in e) in
            let is = format_cost_lem n f w.0 w.1 w.2 (omega (arith, w.2, few)) in
            (w.0, w.1, w.2, above (format_cost f w.0) (cost_some n f r w.0 w.1 w.2) (rw is at w.3))

        back : (k : ℕ) × (1 ≤ k) × (k ≤ n) × (max_cost < format_cost f k) → costs_in_range n (format_block n f).costs ≡ false
        back w =
            elim (test (costs_in_range n (format_block n f).costs)) [
              | inl t ↦
                  absurd
                  (let c = (costs_are.tells t w.0 w.1 w.2).1 in
                  let is = format_cost_lem n f w.0 w.1 w.2 (omega (arith, w.2, few)) in
                  let z : ⊥ = omega (arith, c, is, w.3) in
                  z)
              | inr t ↦ t
            ]

module _ (image : List ℕ) (f : FormatOrder) (reply : List ℕ) where
  abbrev n : ℕ
  n = (decode image).n

  abbrev b : Block
  b = format_block n f

  four : List Question
  four = reply_question reply ∷ image_questions image

  abbrev rest : List Question
  rest = block_questions n b ++ state_questions (decode image) b

  few_here : Usable image reply → n ≤ max_stations
  few_here u = few_stations image u.image_sound

  -- The first four, and some after them.
  early_say : {P : Type 0} (more : List Question) → (Usable image reply → Says (all answer more) P) → Says (all answer (four ++ more)) (Usable image reply × P)
  unfolding four
  early_say more says =
      let both = append_says answer four more in
      record {
        tells = λ e. let t = both.tells e in let u = (four_say image reply).tells t.0 in (u, (says u).tells t.1);
        passes = λ p. both.passes ((four_say image reply).passes p.0, (says p.0).passes p.1);
      }

  pub one_to_four : first_no (reply_question reply ∷ image_questions image) ≢ 0 → format_number image f reply ≡ first_no (reply_question reply ∷ image_questions image)
  unfolding format_number four image_questions
  one_to_four some = sym (decides four (format_order_questions (decode image) f) (first_no four) refl some)

  five : (format_number image f reply ≡ 5) ⇔ (Usable image reply × (length f.sheet ≢ sheet_size))
  unfolding format_number format_order_questions four image_questions reply_question length_question format_questions block_questions state_questions all gives_other spares
  five =
      let asked = first_no_lem 5 four (format_order_questions (decode image) f) refl in
      let own = own_no (eqb (length f.sheet) sheet_size) 5 (drop 1 (format_order_questions (decode image) f)) (omega arith) refl in
      record {
        only = λ e. let t = asked.only e in ((four_say image reply).tells t.0, eqb-false (length f.sheet) sheet_size (own.only t.1));
        if = λ t. asked.if ((four_say image reply).passes t.0, own.if (ne_eqb (length f.sheet) sheet_size t.1));
      }

  nineteen : (format_number image f reply ≡ 19) ⇔ (Usable image reply × (length f.sheet ≡ sheet_size) × Unknown f)
  unfolding format_number format_order_questions four image_questions reply_question length_question format_questions block_questions state_questions all gives_other spares
  nineteen =
      let first = take 1 (format_questions n f.format f.sheet) in
      let asked = first_no_lem 19 (four ++ first) (drop 1 (format_order_questions (decode image) f)) refl in
      let own = own_no (within 1 max_format f.format) 19 (drop 2 (format_order_questions (decode image) f)) (omega arith) refl in
      let early = early_say first (λ u. one_says 5 (sheet_says n f)) in
      record {
        only = λ e. let t = asked.only e in let p = early.tells t.0 in (p.0, p.1, unknown f.format (own.only t.1));
        if = λ t. asked.if (early.passes (t.0, t.1), own.if (outside f.format t.2));
      }
    where
      unknown : (x : ℕ) → within 1 max_format x ≡ false → (x < 1) ⊎ (max_format < x)
      unknown x e =
          elim (test (leb 1 x)) [
            | inl t ↦ inr (leb-false x max_format (rw t at e))
            | inr t ↦ inl (leb-false 1 x t)
          ]

      outside : (x : ℕ) → (x < 1) ⊎ (max_format < x) → within 1 max_format x ≡ false
      outside x (inl h) = rw (lt-leb 1 x h)
      outside x (inr h) = elim (test (leb 1 x)) [ inl t ↦ rw (t, lt-leb x max_format h) | inr t ↦ rw t ]

  twenty : (format_number image f reply ≡ 20) ⇔ (Usable image reply × (length f.sheet ≡ sheet_size) × Known f × (k : ℕ) × (1 ≤ k) × (k ≤ n) × (at 0 (speeds f.sheet) k ≡ 0))
  unfolding format_number format_order_questions four image_questions reply_question length_question format_questions block_questions state_questions all gives_other spares
  twenty =
      let first = take 2 (format_questions n f.format f.sheet) in
      let asked = first_no_lem 20 (four ++ first) (drop 2 (format_order_questions (decode image) f)) refl in
      let own = own_no (all (leb 1) (take n (speeds f.sheet))) 20 (drop 3 (format_order_questions (decode image) f)) (omega arith) refl in
      let early = early_say first (λ u. two_say 5 19 (sheet_says n f) (known_says n f)) in
      record {
        only = λ e.
            let t = asked.only e in
            let p = early.tells t.0 in
            let w = one_fails (leb 1) n (speeds f.sheet) (own.only t.1) in
            (p.0, p.1.0, p.1.1, w.0, w.1, w.2, omega (arith, leb-false 1 (at 0 (speeds f.sheet) w.0) w.3));
        if = λ t. asked.if (early.passes (t.0, (t.1, t.2)), own.if (standing (few_here t.0) t.3 t.4 t.5 t.6));
      }
    where
      standing : n ≤ max_stations → (k : ℕ) → 1 ≤ k → k ≤ n → at 0 (speeds f.sheet) k ≡ 0 → all (leb 1) (take n (speeds f.sheet)) ≡ false
      standing few k low high none =
          elim (test (all (leb 1) (take n (speeds f.sheet)))) [
            | inl t ↦ absurd (let z : ⊥ = omega (arith, (moving_says n f few).tells t k low high, none) in z)
            | inr t ↦ t
          ]

  six : (format_number image f reply ≡ 6) ⇔ (Usable image reply × Readable n f × (k : ℕ) × (1 ≤ k) × (k ≤ n) × (max_cost < format_cost f k))
  unfolding format_number format_order_questions four image_questions reply_question length_question format_questions block_questions state_questions all gives_other spares
  six =
      let asked = first_no_lem 6 (four ++ format_questions n f.format f.sheet) (drop 3 (format_order_questions (decode image) f)) refl in
      let own = own_no (costs_in_range n b.costs && zero_beyond n b.costs && zero_beyond n b.ranks) 6 (drop 4 (format_order_questions (decode image) f)) (omega arith) refl in
      let early = early_say (format_questions n f.format f.sheet) (λ u. three_say n f (few_here u)) in
      record {
        only = λ e.
            let t = asked.only e in
            let p = early.tells t.0 in
            let w = (one_above n f p.1).only (sym (block_question n f) ∙ own.only t.1) in
            (p.0, p.1, w.0, w.1, w.2, w.3);
        if = λ t. asked.if (early.passes (t.0, t.1), own.if (block_question n f ∙ (one_above n f t.1).if (t.2, t.3, t.4, t.5)));
      }

  -- With 0, 11 and 12 the questions up to 7 pass.
  considered : Decided (format_number image f reply) → Writable n f
  unfolding format_number format_order_questions four image_questions reply_question length_question format_questions block_questions state_questions all gives_other spares
  considered decided =
      let more = format_questions n f.format f.sheet ++ block_questions n b in
      let asked = (first_no_lem (format_number image f reply) (four ++ more) (state_questions (decode image) b) (others decided)).only refl in
      let early = (early_say more (λ u. both u)).tells asked.0 in
      written early.0 early.1.0 early.1.1.0 early.1.1.1
    where
      others : {k : ℕ} → Decided k → all (gives_other k) (four ++ format_questions n f.format f.sheet ++ block_questions n b) ≡ true
      others (inl e) = rw e
      others (inr (inl e)) = rw e
      others (inr (inr e)) = rw e

      both : Usable image reply → Says (all answer (format_questions n f.format f.sheet ++ block_questions n b)) (Readable n f × ((costs_in_range n b.costs && zero_beyond n b.costs && zero_beyond n b.ranks ≡ true) × (b.due_in ≤ max_due_in)))
      both u =
          let parts = append_says answer (format_questions n f.format f.sheet) (block_questions n b) in
          let three = three_say n f (few_here u) in
          let two = two_say 6 7 (record { tells = λ e. e; passes = λ e. e }) (leb_says b.due_in max_due_in) in
          record {
            tells = λ e. let t = parts.tells e in (three.tells t.0, two.tells t.1);
            passes = λ p. parts.passes (three.passes p.0, two.passes p.1);
          }

      written : Usable image reply → Readable n f → (costs_in_range n b.costs && zero_beyond n b.costs && zero_beyond n b.ranks) ≡ true → b.due_in ≤ max_due_in → Writable n f
      written u r costs due_in =
          record {
            readable = r;
            costs_fit = λ k low high.
                let few = few_here u in
                let c = ((costs_are n f r).tells (sym (block_question n f) ∙ costs) k low high).1 in
                omega (arith, c, format_cost_lem n f k low high (omega arith));
            due_in_fits = unfold format_block in omega (arith, due_in);
          }

  -- ---- as a block
  module _ (w : Writable n f) where
    same_questions : first_no (format_order_questions (decode image) f) ≡ first_no (order_questions (decode image) (block_bytes b))
    unfolding format_order_questions order_questions block_length_question first_no format_questions
    same_questions =
        sym (after (format_questions n f.format f.sheet) rest ((three_say n f (few_moving n f w.readable)).passes w.readable))
        ∙ rw (eq-eqb (length (block_bytes b)) block_size (format_length n f w), format_read n f w)

    pub same_number : format_number image f reply ≡ offer_number image (block_bytes b) reply
    unfolding format_number offer_number image_questions four
    same_number = same_after four (format_order_questions (decode image) f) (order_questions (decode image) (block_bytes b)) same_questions

    pub offers_as_block : offer_format_call image f reply ≡ offer_call image (block_bytes b) reply
    unfolding offer_format_call offer_call
    offers_as_block = rw (same_number, format_read n f w)

    pub quotes_as_block : quote_format_call image f reply ≡ quote_call image (block_bytes b) reply
    unfolding quote_format_call quote_call
    quotes_as_block = rw (same_number, format_read n f w)

pub format_as_block : FormatAsBlock
format_as_block image f reply =
    record {
      offers_as_block = offers_as_block image f reply;
      quotes_as_block = quotes_as_block image f reply;
      considered = considered image f reply;
      one_to_four = one_to_four image f reply;
      five = five image f reply;
      nineteen = nineteen image f reply;
      twenty = twenty image f reply;
      six = six image f reply;
    }
