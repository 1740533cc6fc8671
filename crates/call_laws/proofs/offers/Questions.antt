-- The first "no" among an offer's questions. A number that no question among the first ten gives is decided by the last two, and says that the ten pass: that is `Considered`.
use mathlib.Core.Path.{◌≡◌, refl}
use mathlib.Core.Logic.{◌⊎◌, inl, inr}
use mathlib.Core.Bool.{Bool, true, false, ◌&&◌}
use mathlib.Core.List.{List, [], ◌∷◌, ◌++◌}
use Prim.Native.Nat.{ℕ, ◌≤◌, ◌<◌}
use native.Mathlib.Omega.{arith}
use lib.ListN.{length, take, drop}
use lib.Dec.{leb, ltb}
use Rattle.model.specs.declared.Block.{Block}
use Rattle.model.specs.Limits.{max_stations, max_live, max_cost, max_due_in, last_tick}
use Rattle.model.specs.Lists.{at, all}
use Rattle.model.specs.Bytes.{eight_bytes, eight_halves}
use Rattle.model.specs.State.{State}
use Rattle.model.specs.Layout.{image_size, block_size, reply_size}
use Rattle.model.specs.DelayBound.{on_time}
use Rattle.model.specs.Image.{decode}
use Rattle.model.specs.Soundness.{station_count_in_range, costs_in_range, zero_beyond, sound}
use Rattle.model.specs.Questions.{Question, ◌else◌, first_no}
use Rattle.model.specs.Admission.{block_of, due_of, arrival, joined_live, block_length_question, block_questions, state_questions, order_questions}
use Rattle.model.specs.Calls.{reply_question, length_question, image_questions, offer_number}
use Rattle.image_laws.specs.Iff.{◌⇔◌}
use Rattle.image_laws.proofs.Tests.{Says, leb_says, ltb_says, eqb_says, and_says, within_says, entries_say}
use Rattle.image_laws.proofs.Clauses.{zero_beyond_lem, costs_say}
use Rattle.image_laws.proofs.Facts.{sound_says}
use Rattle.lists.proofs.Questions.{answer, gives_other, passed}
use Rattle.image_laws.proofs.Questions.{first_no_lem}
use Rattle.call_laws.specs.Considered.{Fitting, Considered}

-- Questions 11 and 12 by their answers.
abbrev pub last_two : Bool → Bool → ℕ
last_two a b = first_no ((a else 11) ∷ (b else 12) ∷ [])

pub both_pass : (a b : Bool) → (last_two a b ≡ 0) ⇔ ((a ≡ true) × (b ≡ true))
unfolding first_no
both_pass a b = record { only = only a b; if = λ t. rw (t.0, t.1) }
  where
    only : (a b : Bool) → last_two a b ≡ 0 → (a ≡ true) × (b ≡ true)
    only true true e = (refl, refl)
    only true false e = absurd (omega arith)
    only false b e = absurd (omega arith)

pub first_fails : (a b : Bool) → (last_two a b ≡ 11) ⇔ (a ≡ false)
unfolding first_no
first_fails a b = record { only = only a b; if = λ e. rw e }
  where
    only : (a b : Bool) → last_two a b ≡ 11 → a ≡ false
    only true true e = absurd (omega arith)
    only true false e = absurd (omega arith)
    only false b e = refl

pub second_fails : (a b : Bool) → (last_two a b ≡ 12) ⇔ ((a ≡ true) × (b ≡ false))
unfolding first_no
second_fails a b = record { only = only a b; if = λ t. rw (t.0, t.1) }
  where
    only : (a b : Bool) → last_two a b ≡ 12 → (a ≡ true) × (b ≡ false)
    only true true e = absurd (omega arith)
    only true false e = (refl, refl)
    only false b e = absurd (omega arith)

-- The numbers that are decided by the last two.
abbrev pub Decided : ℕ → Type 0
Decided n = (n ≡ 0) ⊎ (n ≡ 11) ⊎ (n ≡ 12)

-- Question 6 as facts.
abbrev NoneBeyond : ℕ → List ℕ → Type 0
NoneBeyond n l = (k : ℕ) → n < k → at 0 l k ≡ 0

block_says : (n : ℕ) (b : Block) → n ≤ length b.costs → Says (costs_in_range n b.costs && zero_beyond n b.costs && zero_beyond n b.ranks) ((((k : ℕ) → 1 ≤ k → k ≤ n → (1 ≤ at 0 b.costs k) × (at 0 b.costs k ≤ max_cost)) × NoneBeyond n b.costs) × NoneBeyond n b.ranks)
block_says n b h = and_says (and_says (costs_say n b.costs h) (zero_beyond_lem n b.costs)) (zero_beyond_lem n b.ranks)

-- Questions 6 to 10 as facts.
pub fitting : (s : State) (b : Block) → s.n ≤ length b.costs → (costs_in_range s.n b.costs && zero_beyond s.n b.costs && zero_beyond s.n b.ranks) ≡ true → leb b.due_in max_due_in ≡ true → leb (due_of s.clock b) last_tick ≡ true → leb 1 s.next ≡ true → ltb (length s.orders) max_live ≡ true → Fitting s b
fitting s b long block due_in due_tick ticket room =
    let costs = (block_says s.n b long).tells block in
    record {
      cost_low = λ k low high. (costs.0.0 k low high).0;
      cost_high = λ k low high. (costs.0.0 k low high).1;
      cost_beyond = costs.0.1;
      rank_beyond = costs.1;
      due_in = (leb_says b.due_in max_due_in).tells due_in;
      due_tick = (leb_says (due_of s.clock b) last_tick).tells due_tick;
      ticket_left = (leb_says 1 s.next).tells ticket;
      room = (ltb_says (length s.orders) max_live).tells room;
    }

-- Of a block that all of 6 to 12 pass.
pub block_fits : (s : State) (b : Block) → s.n ≤ length b.costs → first_no (block_questions s.n b ++ state_questions s b) ≡ 0 → Fitting s b
unfolding all answer gives_other block_questions state_questions
block_fits s b long e =
    let asked = block_questions s.n b ++ state_questions s b in
    let yes = (entries_say answer (λ q. answer q ≡ true) (λ q. record { tells = λ e. e; passes = λ e. e }) (true else 0) refl asked).tells (passed asked refl e) in
    fitting s b long (yes 0) (yes 1) (yes 2) (yes 3) (yes 4)

-- A sound image has no more stations than there can be.
pub few_stations : (image : List ℕ) → sound image ≡ true → (decode image).n ≤ max_stations
unfolding station_count_in_range
few_stations image e = ((within_says 1 max_stations (decode image).n).tells ((sound_says image).tells e).n).1

pub eight_ranks : (block : List ℕ) → length (block_of block).ranks ≡ max_stations
unfolding block_of eight_bytes
eight_ranks block = refl

pub eight_costs : (block : List ℕ) → length (block_of block).costs ≡ max_stations
unfolding block_of eight_halves
eight_costs block = refl

module _ (image block reply : List ℕ) where
  questions : List Question
  questions = reply_question reply ∷ image_questions image ++ order_questions (decode image) block

  -- And no more than a block has costs.
  enough_costs : sound image ≡ true → (decode image).n ≤ length (block_of block).costs
  enough_costs e = rw (eight_costs block) (few_stations image e)

  ten_say : Says (all answer (take 10 questions)) (Considered image block reply)
  unfolding all answer questions reply_question length_question image_questions block_length_question block_questions state_questions order_questions
  ten_say = record { tells = there; passes = back }
    where
      s : State
      s = decode image

      b : Block
      b = block_of block

      there : all answer (take 10 questions) ≡ true → Considered image block reply
      there e =
          let yes = (entries_say answer (λ q. answer q ≡ true) (λ q. record { tells = λ e. e; passes = λ e. e }) (true else 0) refl (take 10 questions)).tells e in
          record {
            usable =
                record {
                  reply_whole = (eqb_says (length reply) reply_size).tells (yes 0);
                  image_whole = (eqb_says (length image) image_size).tells (yes 1);
                  image_marked = yes 2;
                  image_sound = yes 3;
                };
            block_whole = (eqb_says (length block) block_size).tells (yes 4);
            fitting = fitting s b (enough_costs (yes 3)) (yes 5) (yes 6) (yes 7) (yes 8) (yes 9);
          }

      back : Considered image block reply → all answer (take 10 questions) ≡ true
      back c =
          let u = c.usable in
          let f = c.fitting in
          rw (
            (eqb_says (length reply) reply_size).passes u.reply_whole,
            (eqb_says (length image) image_size).passes u.image_whole,
            u.image_marked,
            u.image_sound,
            (eqb_says (length block) block_size).passes c.block_whole,
            (block_says s.n b (enough_costs u.image_sound)).passes ((λ k low high. (f.cost_low k low high, f.cost_high k low high), f.cost_beyond), f.rank_beyond),
            (leb_says b.due_in max_due_in).passes f.due_in,
            (leb_says (due_of s.clock b) last_tick).passes f.due_tick,
            (leb_says 1 s.next).passes f.ticket_left,
            (ltb_says (length s.orders) max_live).passes f.room,
          )

  -- What the last two give.
  abbrev pub last : ℕ
  last = let s = decode image in let b = block_of block in last_two (on_time s.n (arrival s b)) (all (on_time s.n) (joined_live s b))

  pub number_is : (n : ℕ) → Decided n → (offer_number image block reply ≡ n) ⇔ (Considered image block reply × (last ≡ n))
  unfolding offer_number questions all gives_other reply_question length_question image_questions block_length_question block_questions state_questions order_questions
  number_is n decided =
      let f = first_no_lem n (take 10 questions) (drop 10 questions) (others decided) in
      record { only = λ e. let t = f.only e in (ten_say.tells t.0, t.1); if = λ t. f.if (ten_say.passes t.0, t.1) }
    where
      others : {n : ℕ} → Decided n → all (gives_other n) (take 10 questions) ≡ true
      others (inl e) = rw e
      others (inr (inl e)) = rw e
      others (inr (inr e)) = rw e

  pub considered : Decided (offer_number image block reply) → Considered image block reply
  considered decided = ((number_is (offer_number image block reply) decided).only refl).0
