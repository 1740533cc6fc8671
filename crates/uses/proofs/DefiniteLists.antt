-- Demand 3 of definite lists of calls, each comparison computed: the statement speaks of more than empty lists, of orders that are out, in service and waiting,
-- and it is tight. Y is out on its bound and on its due tick; with the ranks reversed X is out later than the bound that it had when it was accepted; at eight
-- stations a live order has one tick to both. Nothing here rests on the proof of demand 3.
use mathlib.Core.Path.{◌≡◌, refl, sym, subst, ◌∙◌}
use mathlib.Core.Bool.{true}
use mathlib.Core.List.{List, [], ◌∷◌, Memᴰ}
use mathlib.Core.Option.{none, some, some-injective, some-ne-none}
use Prim.Native.Nat.{ℕ}
use native.Mathlib.Omega.{arith}
use lib.ListN.{length, get_or}
use borrow.Author.Tests.{eqb-false, leb-true}
use Rattle.model.specs.Admission.{block_of}
use Rattle.model.specs.Calls.{result, reply_question, advance_number, advance_call}
use Rattle.model.specs.History.{Entry, entering, is_at, out_at}
use Rattle.model.specs.Runs.{Run, started, outcome, after_call, after_all, AllAllowed}
use Rattle.model.specs.Table.{read_row}
use Rattle.model.specs.Cases.{order, X, Y}
use Rattle.model.specs.FormatCases.{by_format, two_stations}
use Rattle.claims.specs.Demand3.{InTime, Kept}
use Rattle.uses.specs.DefiniteLists.{some_image, some_reply, opened, mixed_calls, reversed_calls, halfway_calls, eight_calls, format_calls, all_stations, eight_format_calls, formats, eight_formats, mixed, reversed, halfway, eight}
use Rattle.uses.proofs.Words.{of_two}

-- The order with place i among those accepted in a run.
abbrev pub entry : Run → ℕ → Entry
entry run i = get_or run.history.orders i (entering (block_of []) run.history)

-- What is said of every tick at which an order is out is said of the one.
out_at_lem : (P : ℕ → Type 0) (out : ℕ) → P out → (t : ℕ) → some out ≡ some t → P t
out_at_lem P out p t q = subst P (some-injective out t q) p

not_live : {A : Type 0} {out : ℕ} → some out ≡ none → A
not_live {out = out} q = absurd (some-ne-none out q)

not_out : {A : Type 0} {t : ℕ} → none ≡ some t → A
not_out {t = t} q = absurd (some-ne-none t (sym q))

-- Of a reply an advance's number asks the length alone.
advance_by_length : (image reply other : List ℕ) → length reply ≡ length other → (advance_call image reply).number ≡ (advance_call image other).number
unfolding advance_call result advance_number reply_question
advance_by_length image reply other e = rw e

-- ---- "X is out at 5, Y at 7"
pub mixed_allowed : AllAllowed (opened 2) mixed_calls
unfolding read_row opened mixed_calls X Y started after_call outcome
mixed_allowed = (tt, (eqb-false 1 0 refl, (eqb-false 14 0 refl, (tt, (tt, (tt, (tt, (tt, (tt, (tt, (tt, (tt, tt))))))))))))

mixed_x : InTime mixed (entry mixed 0)
unfolding read_row opened mixed_calls mixed X Y started after_call outcome after_all
mixed_x =
    record {
      out_in_time = out_at_lem _ 5 (leb-true _ _ (refl {a = true}), leb-true _ _ (refl {a = true}));
      live_in_time = not_live;
      can_advance = not_live;
    }

mixed_y : InTime mixed (entry mixed 1)
unfolding read_row opened mixed_calls mixed X Y started after_call outcome after_all
mixed_y =
    record {
      out_in_time = out_at_lem _ 7 (leb-true _ _ (refl {a = true}), leb-true _ _ (refl {a = true}));
      live_in_time = not_live;
      can_advance = not_live;
    }

mixed_two : mixed.history.orders ≡ entry mixed 0 ∷ entry mixed 1 ∷ []
unfolding read_row opened mixed_calls mixed X Y started after_call outcome after_all
mixed_two = refl

pub mixed_kept : Kept some_image 2 some_reply mixed_calls
unfolding read_row opened mixed_calls mixed X Y started after_call outcome after_all is_at out_at
mixed_kept =
    record {
      opened = refl {a = 0};
      orders = λ e m. of_two (InTime mixed) (entry mixed 0) (entry mixed 1) mixed_x mixed_y e (subst (λ (l : List Entry). Memᴰ e l) mixed_two m);
      replies = (λ e. refl {a = 1}, (tt, (tt, (tt, (λ e. refl {a = 2}, (λ e. (refl {a = 0}, refl {a = 1}), (λ e. (refl {a = 0}, refl {a = 2}), (λ e. (refl {a = 0}, refl {a = 3}), (λ e. (refl {a = 0}, refl {a = 4}), (λ e. (refl {a = 1}, refl {a = 5}), (λ e. (refl {a = 0}, refl {a = 6}), (λ e. (refl {a = 2}, refl {a = 7}), tt))))))))))));
    }

-- ---- "Y out at 3, X at 6"
pub reversed_allowed : AllAllowed (opened 2) reversed_calls
unfolding reversed_calls
reversed_allowed = (tt, (tt, (tt, (tt, (tt, (tt, (tt, (tt, tt))))))))

reversed_x : InTime reversed (entry reversed 0)
unfolding read_row opened reversed_calls reversed X Y started after_call outcome after_all
reversed_x =
    record {
      out_in_time = out_at_lem _ 6 (leb-true _ _ (refl {a = true}), leb-true _ _ (refl {a = true}));
      live_in_time = not_live;
      can_advance = not_live;
    }

reversed_y : InTime reversed (entry reversed 1)
unfolding read_row opened reversed_calls reversed X Y started after_call outcome after_all
reversed_y =
    record {
      out_in_time = out_at_lem _ 3 (leb-true _ _ (refl {a = true}), leb-true _ _ (refl {a = true}));
      live_in_time = not_live;
      can_advance = not_live;
    }

reversed_two : reversed.history.orders ≡ entry reversed 0 ∷ entry reversed 1 ∷ []
unfolding read_row opened reversed_calls reversed X Y started after_call outcome after_all
reversed_two = refl

pub reversed_kept : Kept some_image 2 some_reply reversed_calls
unfolding read_row opened reversed_calls reversed X Y started after_call outcome after_all is_at out_at
reversed_kept =
    record {
      opened = refl {a = 0};
      orders = λ e m. of_two (InTime reversed) (entry reversed 0) (entry reversed 1) reversed_x reversed_y e (subst (λ (l : List Entry). Memᴰ e l) reversed_two m);
      replies = (λ e. refl {a = 1}, (λ e. refl {a = 2}, (λ e. (refl {a = 0}, refl {a = 1}), (λ e. (refl {a = 0}, refl {a = 2}), (λ e. (refl {a = 2}, refl {a = 3}), (λ e. (refl {a = 0}, refl {a = 4}), (λ e. (refl {a = 0}, refl {a = 5}), (λ e. (refl {a = 1}, refl {a = 6}), tt))))))));
    }

-- ---- X in service, with one tick to go, and Y waiting
pub halfway_allowed : AllAllowed (opened 2) halfway_calls
unfolding halfway_calls
halfway_allowed = (tt, (tt, (tt, tt)))

halfway_x : InTime halfway (entry halfway 0)
unfolding read_row opened halfway_calls halfway X Y started after_call outcome after_all
halfway_x =
    record {
      out_in_time = λ t. not_out;
      live_in_time = λ q. (leb-true _ _ (refl {a = true}), leb-true _ _ (refl {a = true}));
      can_advance = λ q reply e. advance_by_length halfway.image reply some_reply e ∙ refl {a = 0};
    }

halfway_y : InTime halfway (entry halfway 1)
unfolding read_row opened halfway_calls halfway X Y started after_call outcome after_all
halfway_y =
    record {
      out_in_time = λ t. not_out;
      live_in_time = λ q. (leb-true _ _ (refl {a = true}), leb-true _ _ (refl {a = true}));
      can_advance = λ q reply e. advance_by_length halfway.image reply some_reply e ∙ refl {a = 0};
    }

halfway_two : halfway.history.orders ≡ entry halfway 0 ∷ entry halfway 1 ∷ []
unfolding read_row opened halfway_calls halfway X Y started after_call outcome after_all
halfway_two = refl

pub halfway_kept : Kept some_image 2 some_reply halfway_calls
unfolding read_row opened halfway_calls halfway X Y started after_call outcome after_all is_at out_at
halfway_kept =
    record {
      opened = refl {a = 0};
      orders = λ e m. of_two (InTime halfway) (entry halfway 0) (entry halfway 1) halfway_x halfway_y e (subst (λ (l : List Entry). Memᴰ e l) halfway_two m);
      replies = (λ e. refl {a = 1}, (λ e. refl {a = 2}, (λ e. (refl {a = 0}, refl {a = 1}), tt)));
    }

-- ---- eight stations: one order out at 8, one that waits at station 8
pub eight_allowed : AllAllowed (opened 8) eight_calls
unfolding eight_calls
eight_allowed = (tt, (tt, (tt, (tt, (tt, (tt, (tt, (tt, (tt, (tt, tt))))))))))

eight_first : InTime eight (entry eight 0)
unfolding read_row opened eight_calls eight order started after_call outcome after_all
eight_first =
    record {
      out_in_time = out_at_lem _ 8 (leb-true _ _ (refl {a = true}), leb-true _ _ (refl {a = true}));
      live_in_time = not_live;
      can_advance = not_live;
    }

eight_second : InTime eight (entry eight 1)
unfolding read_row opened eight_calls eight order started after_call outcome after_all
eight_second =
    record {
      out_in_time = λ t. not_out;
      live_in_time = λ q. (leb-true _ _ (refl {a = true}), leb-true _ _ (refl {a = true}));
      can_advance = λ q reply e. advance_by_length eight.image reply some_reply e ∙ refl {a = 0};
    }

eight_two : eight.history.orders ≡ entry eight 0 ∷ entry eight 1 ∷ []
unfolding read_row opened eight_calls eight order started after_call outcome after_all
eight_two = refl

pub eight_kept : Kept some_image 8 some_reply eight_calls
unfolding read_row opened eight_calls eight order started after_call outcome after_all is_at out_at
eight_kept =
    record {
      opened = refl {a = 0};
      orders = λ e m. of_two (InTime eight) (entry eight 0) (entry eight 1) eight_first eight_second e (subst (λ (l : List Entry). Memᴰ e l) eight_two m);
      replies = (λ e. refl {a = 1}, (λ e. refl {a = 2}, (λ e. (refl {a = 0}, refl {a = 1}), (λ e. (refl {a = 0}, refl {a = 2}), (λ e. (refl {a = 0}, refl {a = 3}), (λ e. (refl {a = 0}, refl {a = 4}), (λ e. (refl {a = 0}, refl {a = 5}), (λ e. (refl {a = 0}, refl {a = 6}), (λ e. (refl {a = 0}, refl {a = 7}), (λ e. (refl {a = 1}, refl {a = 8}), tt))))))))));
    }

-- ---- by format: A3 is X and out at 5, A5 is Y and out at 7
pub formats_allowed : AllAllowed (opened 2) format_calls
unfolding format_calls
formats_allowed = (tt, (tt, (tt, (tt, (tt, (tt, (tt, (tt, (tt, (tt, (tt, tt)))))))))))

formats_first : InTime formats (entry formats 0)
unfolding read_row opened format_calls formats two_stations by_format started after_call outcome after_all
formats_first =
    record {
      out_in_time = out_at_lem _ 5 (leb-true _ _ (refl {a = true}), leb-true _ _ (refl {a = true}));
      live_in_time = not_live;
      can_advance = not_live;
    }

formats_second : InTime formats (entry formats 1)
unfolding read_row opened format_calls formats two_stations by_format started after_call outcome after_all
formats_second =
    record {
      out_in_time = out_at_lem _ 7 (leb-true _ _ (refl {a = true}), leb-true _ _ (refl {a = true}));
      live_in_time = not_live;
      can_advance = not_live;
    }

formats_two : formats.history.orders ≡ entry formats 0 ∷ entry formats 1 ∷ []
unfolding read_row opened format_calls formats two_stations by_format started after_call outcome after_all
formats_two = refl

pub formats_kept : Kept some_image 2 some_reply format_calls
unfolding read_row opened format_calls formats two_stations by_format started after_call outcome after_all is_at out_at
formats_kept =
    record {
      opened = refl {a = 0};
      orders = λ e m. of_two (InTime formats) (entry formats 0) (entry formats 1) formats_first formats_second e (subst (λ (l : List Entry). Memᴰ e l) formats_two m);
      replies = (λ e. refl {a = 1}, (λ e. absurd (omega (arith, e)), (tt, (λ e. refl {a = 2}, (λ e. (refl {a = 0}, refl {a = 1}), (λ e. (refl {a = 0}, refl {a = 2}), (λ e. (refl {a = 0}, refl {a = 3}), (λ e. (refl {a = 0}, refl {a = 4}), (λ e. (refl {a = 1}, refl {a = 5}), (λ e. (refl {a = 0}, refl {a = 6}), (λ e. (refl {a = 2}, refl {a = 7}), tt)))))))))));
    }

-- ---- eight stations, the first order by format: it is out at 8, and the other waits at station 8
pub eight_formats_allowed : AllAllowed (opened 8) eight_format_calls
unfolding eight_format_calls
eight_formats_allowed = (tt, (tt, (tt, (tt, (tt, (tt, (tt, (tt, (tt, (tt, tt))))))))))

eight_formats_first : InTime eight_formats (entry eight_formats 0)
unfolding read_row opened eight_format_calls eight_formats order all_stations by_format started after_call outcome after_all
eight_formats_first =
    record {
      out_in_time = out_at_lem _ 8 (leb-true _ _ (refl {a = true}), leb-true _ _ (refl {a = true}));
      live_in_time = not_live;
      can_advance = not_live;
    }

eight_formats_second : InTime eight_formats (entry eight_formats 1)
unfolding read_row opened eight_format_calls eight_formats order all_stations by_format started after_call outcome after_all
eight_formats_second =
    record {
      out_in_time = λ t. not_out;
      live_in_time = λ q. (leb-true _ _ (refl {a = true}), leb-true _ _ (refl {a = true}));
      can_advance = λ q reply e. advance_by_length eight_formats.image reply some_reply e ∙ refl {a = 0};
    }

eight_formats_two : eight_formats.history.orders ≡ entry eight_formats 0 ∷ entry eight_formats 1 ∷ []
unfolding read_row opened eight_format_calls eight_formats order all_stations by_format started after_call outcome after_all
eight_formats_two = refl

pub eight_formats_kept : Kept some_image 8 some_reply eight_format_calls
unfolding read_row opened eight_format_calls eight_formats order all_stations by_format started after_call outcome after_all is_at out_at
eight_formats_kept =
    record {
      opened = refl {a = 0};
      orders = λ e m. of_two (InTime eight_formats) (entry eight_formats 0) (entry eight_formats 1) eight_formats_first eight_formats_second e (subst (λ (l : List Entry). Memᴰ e l) eight_formats_two m);
      replies = (λ e. refl {a = 1}, (λ e. refl {a = 2}, (λ e. (refl {a = 0}, refl {a = 1}), (λ e. (refl {a = 0}, refl {a = 2}), (λ e. (refl {a = 0}, refl {a = 3}), (λ e. (refl {a = 0}, refl {a = 4}), (λ e. (refl {a = 0}, refl {a = 5}), (λ e. (refl {a = 0}, refl {a = 6}), (λ e. (refl {a = 0}, refl {a = 7}), (λ e. (refl {a = 1}, refl {a = 8}), tt))))))))));
    }
