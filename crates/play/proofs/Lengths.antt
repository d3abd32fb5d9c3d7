-- How long a printed line is at most.
use Rattle.std.proofs.Common.{ℕ, ◌^◌, ◌<◌, ◌≤◌, length, ℤ, codes, decimal, arith, length-append, w32, SFits, rules}
use lib.Signed.{mag}
use Rattle.std.specs.Fmt.{signed_decimal}
use Rattle.std.proofs.lemmas.Fmt.{length-decimal-le, length_signed_le}
use Rattle.play.specs.Printed.{value_text, refused_text, longest_reply}

pub value_short : (z : ℤ) → SFits w32 z → length (value_text z) ≤ longest_reply
value_short z h =
    let small : mag z < 2 ^ 31 = search rules in
    let s = length_signed_le 10 z (omega arith) (omega arith) in
    let l = length-append (codes " = ") (signed_decimal z) in omega (arith, s, l)

pub refused_short : (k : ℕ) → k < 256 → length (refused_text k) ≤ longest_reply
refused_short k h =
    let s = length-decimal-le 3 k (omega arith) (omega arith) (omega arith) in
    let l = length-append (codes " no ") (decimal k) in omega (arith, s, l)

pub number_short : (n : ℕ) → n < 2 ^ 64 → length (decimal n) ≤ 20
number_short n h = length-decimal-le 20 n (omega arith) (omega arith) h
