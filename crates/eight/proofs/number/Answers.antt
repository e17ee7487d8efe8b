use mathlib.Core.Bool.{true, false}
use mathlib.Core.List.{List}
use mathlib.Core.Path.{◌≡◌, sym, ◌∙◌}
use Prim.Native.Nat.{ℕ, ◌≤◌, ◌<◌, ◌^◌}
use native.Mathlib.Omega.{arith}
use lib.ListN.{length}
use Rattle.hex_digits.specs.Hex.{all_digits, number}
use Rattle.hex_digits.proofs.Numbers.{number_lt}
use Rattle.eight.specs.Packed.{packed, Each, numbers_in, joined_from, number_if_digits}
use Rattle.eight.proofs.Packed.{numbers_of_digits, packed_le, length_numbers}
use Rattle.eight.proofs.number.Goals as goal

-- what is joined are eight numbers below 16, and it is the number that the digits stand for
record Joined (bs : List ℕ) (d r : ℕ) : Type 0 where
  small : d ≤ 0x0F0F_0F0F_0F0F_0F0F
  value : ((ns : List ℕ) → length ns ≡ 8 → Each 16 ns → d ≡ packed ns → r ≡ joined_from 0 ns) → r ≡ number bs
  fits : number bs < 2 ^ 32

joined : (bs : List ℕ) (d r : ℕ) → length bs ≡ 8 → Each 256 bs → d ≡ packed (numbers_in bs) → all_digits bs ≡ true → Joined bs d r
joined bs d r n e q all =
    let is = numbers_of_digits bs e all 0 in
    let long : length (numbers_in bs) ≡ 8 = length_numbers bs ∙ n in
    record {
      small = rw q (packed_le (numbers_in bs) long is.0);
      value = λ j. j (numbers_in bs) long is.0 q ∙ is.1;
      fits = rw n at (number_lt bs all);
    }

pub joined-requires : goal.joined-requires
joined-requires c =
    let bs = c.args.text in
    let w = c.word_of-v.ensures in
    let d = c.numbers_in-d.ensures.1 bs w.long w.bytes w.value in
    let all : all_digits bs ≡ true = sym (c.are_digits.ensures bs w.long w.bytes w.value d) ∙ c.if-are_digits.true in
    (joined bs c.numbers_in-d.result 0 w.long w.bytes d all).small

pub overflow_cast-result : goal.overflow_cast-result
overflow_cast-result c =
    let bs = c.args.text in
    let w = c.word_of-v.ensures in
    let d = c.numbers_in-d.ensures.1 bs w.long w.bytes w.value in
    let all : all_digits bs ≡ true = sym (c.are_digits.ensures bs w.long w.bytes w.value d) ∙ c.if-are_digits.true in
    let is = joined bs c.numbers_in-d.result c.joined.result w.long w.bytes d all in
    record { fits = omega (arith, is.value c.joined.ensures, is.fits) }

pub returns-then-are_digits : goal.returns-then-are_digits
unfolding number_if_digits
returns-then-are_digits c =
    let bs = c.args.text in
    let w = c.word_of-v.ensures in
    let d = c.numbers_in-d.ensures.1 bs w.long w.bytes w.value in
    let all : all_digits bs ≡ true = sym (c.are_digits.ensures bs w.long w.bytes w.value d) ∙ c.if-are_digits.true in
    let is = joined bs c.numbers_in-d.result c.joined.result w.long w.bytes d all in
    rw (all, is.value c.joined.ensures)

pub returns-else-are_digits : goal.returns-else-are_digits
unfolding number_if_digits
returns-else-are_digits c =
    let bs = c.args.text in
    let w = c.word_of-v.ensures in
    let d = c.numbers_in-d.ensures.1 bs w.long w.bytes w.value in
    let none : all_digits bs ≡ false = sym (c.are_digits.ensures bs w.long w.bytes w.value d) ∙ c.if-are_digits.false in
    rw none
