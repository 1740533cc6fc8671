-- An order by format is judged as the block that it stands for, once what is asked before the block passes.
use mathlib.Core.Path.{◌≡◌, sym, subst}
use mathlib.Core.Logic.{inl, inr}
use mathlib.Core.List.{List}
use Prim.Native.Nat.{ℕ}
use native.Mathlib.Omega.{arith}
use lib.ListN.{length}
use Rattle.model.specs.declared.Block.{Block}
use Rattle.model.specs.Layout.{block_size}
use Rattle.model.specs.Admission.{block_of, block_bytes}
use Rattle.model.specs.Formats.{FormatOrder, format_block}
use Rattle.model.specs.Calls.{Result}
use Rattle.model.specs.History.{History}
use Rattle.call_laws.specs.FormatExact.{Readable, Writable}
use Rattle.call_laws.proofs.offers.Questions.{Decided}
use Rattle.call_laws.proofs.formats.Block.{format_cost_lem, few_moving, format_read, format_length}
use Rattle.claims.specs.ByHistory.{Considered, Judged}

-- The questions before 11 with another answer to what is asked before the block.
with_given : {P Q : Type 0} {h : History} {b : Block} {reply : List ℕ} → Q → Considered P h b reply → Considered Q h b reply
with_given q c =
    record {
      reply_whole = c.reply_whole;
      given = q;
      cost_low = c.cost_low;
      cost_high = c.cost_high;
      cost_beyond = c.cost_beyond;
      rank_beyond = c.rank_beyond;
      due_in = c.due_in;
      due_tick = c.due_tick;
      room = c.room;
    }

module _ (h : History) (f : FormatOrder) (reply : List ℕ) where
  abbrev b : Block
  b = format_block h.n f

  abbrev bytes : List ℕ
  bytes = block_bytes b

  -- Where they pass, the order can be written as a block.
  can_be : Considered (Readable h.n f) h b reply → Writable h.n f
  unfolding format_block
  can_be c =
      let few = few_moving h.n f c.given in
      record {
        readable = c.given;
        costs_fit = λ k low high. omega (arith, c.cost_high k low high, format_cost_lem h.n f k low high (omega arith));
        due_in_fits = omega (arith, c.due_in);
      }

  -- The call by format, and that on the bytes, which is judged.
  module _ (r on_bytes : Result) (judged : Judged (length bytes ≡ block_size) h (block_of bytes) reply on_bytes) (writable : Decided r.number → Writable h.n f) (same : Writable h.n f → r ≡ on_bytes) where
    as_block : Writable h.n f → Judged (length bytes ≡ block_size) h b reply r
    as_block w =
        subst (λ (x : Block). Judged (length bytes ≡ block_size) h x reply r) (format_read h.n f w)
        (subst (λ (x : Result). Judged (length bytes ≡ block_size) h (block_of bytes) reply x) (sym (same w)) judged)

    pub judged_by_format : Judged (Readable h.n f) h b reply r
    judged_by_format =
        record {
          done =
              record {
                only = λ e. let w = writable (inl e) in let t = (as_block w).done.only e in (with_given w.readable t.0, t.1);
                if = λ t. let w = can_be t.0 in (as_block w).done.if (with_given (format_length h.n f w) t.0, t.1);
              };
          late =
              record {
                only = λ e. let w = writable (inr (inl e)) in let t = (as_block w).late.only e in (with_given w.readable t.0, t.1);
                if = λ t. let w = can_be t.0 in (as_block w).late.if (with_given (format_length h.n f w) t.0, t.1);
              };
          delaying =
              record {
                only = λ e. let w = writable (inr (inr e)) in let t = (as_block w).delaying.only e in (with_given w.readable t.0, t.1, t.2, t.3, t.4);
                if = λ t. let w = can_be t.0 in (as_block w).delaying.if (with_given (format_length h.n f w) t.0, t.1, t.2, t.3, t.4);
              };
          tick = λ e. (as_block (writable (inl e))).tick e;
          margin = λ decided. (as_block (writable decided)).margin decided;
        }
