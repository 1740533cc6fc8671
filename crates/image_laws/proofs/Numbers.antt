-- A number is its bytes: the digits to base 256 give it back, and bytes are the digits of the number that they make.
use mathlib.Core.Path.{◌≡◌, sym, ◌∙◌}
use mathlib.Core.List.{List}
use Prim.Native.Nat.{ℕ, ◌+◌, ◌*◌, ◌/◌, ◌%◌, ◌<◌}
use native.Mathlib.Nat.{zero-add, div-eq_of_lt, mod-eq_of_lt, div-div-eq-div-mul, add-mul-div_left, add-mul-mod_self_left}
use native.Mathlib.Omega.{arith}
use Rattle.model.specs.Bytes.{byte, half, word, one_byte, two_bytes, four_bytes}
use Rattle.image_laws.specs.InRange.{byte_limit, half_limit, word_limit, Below}

pub byte_of_one : (v : ℕ) → v < byte_limit → byte (one_byte v) 0 ≡ v
byte_of_one v h = mod-eq_of_lt h

pub half_of_two : (v : ℕ) → v < half_limit → half (two_bytes v) 0 ≡ v
half_of_two v h = omega arith

pub word_of_four : (v : ℕ) → v < word_limit → word (four_bytes v) 0 ≡ v
word_of_four v h =
    let e : v / 16777216 ≡ v / 65536 / 256 = sym (div-div-eq-div-mul v 65536 256) in
    rw e (omega arith)

low : (a q : ℕ) → a < byte_limit → (a + 256 * q) % 256 ≡ a
low a q h = add-mul-mod_self_left a 256 q ∙ mod-eq_of_lt h

high : (a q : ℕ) → a < byte_limit → (a + 256 * q) / 256 ≡ q
high a q h = add-mul-div_left a q (omega arith) ∙ rw (div-eq_of_lt h) (zero-add q)

-- The numbers that two places and four places of a list make, and the bytes of these.
abbrev two : List ℕ → ℕ → ℕ → ℕ
two s i j = byte s i + 256 * byte s j

abbrev four : List ℕ → ℕ → ℕ → ℕ → ℕ → ℕ
four s i j k l = two s i j + 65536 * two s k l

module _ (s : List ℕ) (bytes : Below byte_limit s) (i j : ℕ) where
  pub half_low : two s i j % 256 ≡ byte s i
  half_low = low (byte s i) (byte s j) (bytes i)

  pub half_high : two s i j / 256 % 256 ≡ byte s j
  half_high = rw (high (byte s i) (byte s j) (bytes i)) (mod-eq_of_lt (bytes j))

  module _ (k l : ℕ) where
    nested : four s i j k l ≡ byte s i + 256 * (byte s j + 256 * two s k l)
    nested = omega arith

    pub word_first : four s i j k l % 256 ≡ byte s i
    word_first = rw nested (low (byte s i) (byte s j + 256 * two s k l) (bytes i))

    over_one : four s i j k l / 256 ≡ byte s j + 256 * two s k l
    over_one = rw nested (high (byte s i) (byte s j + 256 * two s k l) (bytes i))

    pub word_second : four s i j k l / 256 % 256 ≡ byte s j
    word_second = rw over_one (low (byte s j) (two s k l) (bytes j))

    over_two : four s i j k l / 65536 ≡ two s k l
    over_two = sym (div-div-eq-div-mul (four s i j k l) 256 256) ∙ rw over_one (high (byte s j) (two s k l) (bytes j))

    pub word_third : four s i j k l / 65536 % 256 ≡ byte s k
    word_third = rw over_two (low (byte s k) (byte s l) (bytes k))

    pub word_fourth : four s i j k l / 16777216 % 256 ≡ byte s l
    word_fourth =
        rw (← div-div-eq-div-mul (four s i j k l) 65536 256, over_two, high (byte s k) (byte s l) (bytes k)) (mod-eq_of_lt (bytes l))
