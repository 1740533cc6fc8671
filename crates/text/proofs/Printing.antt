-- A text of several parts is printed part by part. One line proves that a printer of such a text keeps its promise, as `returns c = c.bytes.ensures then c.decimal.ensures`.
use mathlib.Core.Path.{◌≡◌, ◌∙◌}
use mathlib.Core.List.{List, ◌++◌}
use Prim.Native.Nat.{ℕ}
use Rattle.lists.specs.Stored.{Put}
use Rattle.lists.proofs.Stores.{put_then}
use Rattle.text.specs.declared.begun.Text.{Text}
use Rattle.text.specs.Printed.{Printed}

infixl 40 ◌then◌
pub ◌then◌ : {a b c : Text} {x y : List ℕ} → Printed a x b → Printed b y c → Printed a (x ++ y) c
p then q = record { put = put_then p.put q.put; room = q.room ∙ p.room; buffer = q.buffer ∙ p.buffer }

-- What is printed into a new text stands at the front of the buffer.
pub at_front : {a b : Text} {l x : List ℕ} → a.at ≡ 0 → a.out.now ≡ l → Printed a x b → Put l 0 x b.at b.out.now
at_front {a} {b} {l} {x} start same p = rw (start, same) at p.put
