use Prim.Native.Nat.{◌^◌, ◌≤◌}
use native.Mathlib.Nat.{pow-le-pow_right}
use native.Mathlib.Omega.{arith}
use borrow.Author.Rules.{rules}
use Rattle.text.proofs.parts.DigitLaws.{digits_none}
use Rattle.text.proofs.numbers.WordLaws.{no_digits, too_long, zero_first, byte_other, digit_more, too_large, all_digits, one_digit, other_first}
use Rattle.text.proofs.numbers.number_of.Goals as goal
use Rattle.text.proofs.numbers.number_of.Goals.{else-word-ne1-via-then-word-ne1+else-word-eq48, else-word-ne1-via-else-word-ne1}

pub returns-then-is_empty : goal.returns-then-is_empty
returns-then-is_empty c = no_digits _ _ (search rules)

pub returns-then-word-gt-MAX_DIGITS : goal.returns-then-word-gt-MAX_DIGITS
returns-then-word-gt-MAX_DIGITS c = too_long _ _ (omega arith) (omega arith)

pub returns-then-word-eq48 : goal.returns-then-word-eq48
returns-then-word-eq48 c = zero_first _ _ c.if-word-ne1.true c.if-word-eq48.true

pub loop-b-init : goal.loop-b-init
loop-b-init c = digits_none

pub returns-then-not-is_ascii_digit : goal.returns-then-not-is_ascii_digit
returns-then-not-is_ascii_digit c = byte_other _ _ c.loop-b.invariant (search rules) c.if-not-is_ascii_digit.ensures.cases

pub overflow_mul-value : goal.overflow_mul-value
overflow_mul-value c =
    let power : 10 ^ c.loop-b.b-index ≤ 10 ^ 9 = pow-le-pow_right (omega arith) {i = c.loop-b.b-index} {j = 9} (omega arith) in
    omega (arith, c.loop-b.invariant.small)

pub overflow_add-value : goal.overflow_add-value
overflow_add-value c =
    let power : 10 ^ c.loop-b.b-index ≤ 10 ^ 9 = pow-le-pow_right (omega arith) {i = c.loop-b.b-index} {j = 9} (omega arith) in
    omega (arith, c.loop-b.invariant.small)

pub loop-b-preserved : goal.loop-b-preserved
loop-b-preserved c = digit_more c.loop-b.invariant (search rules) c.if-not-is_ascii_digit.ensures.cases c.from.ensures

pub returns-then-from-value : goal.returns-then-from-value
returns-then-from-value c = too_large _ _ c.loop-b.invariant (omega arith) (omega arith)

pub returns : goal.returns
returns c =
    let word = c.args.word.now in
    all_digits _ _ c.loop-b.invariant (omega arith) (omega arith) (search rules)
    (elim c.else-word-ne1.branch [
      | else-word-ne1-via-then-word-ne1+else-word-eq48 w ↦ other_first word w.if-word-eq48.false
      | else-word-ne1-via-else-word-ne1 w ↦ one_digit word w.if-word-ne1.false
    ])
