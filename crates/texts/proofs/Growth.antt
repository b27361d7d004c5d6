-- One digit more still fits.
use Rattle.std.proofs.Common.{◌≡◌, ℕ, zero, suc, ◌+◌, ◌-◌, ◌*◌, ◌^◌, ◌<◌, ◌≤◌, ap, ◌∙◌, mul-le-mul_right, suc-mul, pow-suc, add-one, mul-zero, arith}
use Rattle.std.proofs.Math.Nat.{pow-le-pow_right}

-- a number of i digits and one digit more, where at most `most` digits, and so more than i, fit
pub room : (base v d i n most : ℕ) → v < base ^ i → d ≤ base - 1 → i < n → n ≤ most → base ^ most ≤ 2 ^ 64 → v * base + d < 2 ^ 64
room zero v d i n most below digit more few fits = omega (arith, mul-zero v)
room (suc b) v d i n most below digit more few fits =
    let base = suc b in
    let longer : base ^ (i + 1) ≤ base ^ most = pow-le-pow_right (omega arith) (omega arith) in
    let opened : base ^ (i + 1) ≡ base ^ i * base = ap (λ (k : ℕ). base ^ k) (add-one i) ∙ pow-suc base i in
    let times : suc v * base ≤ base ^ i * base = mul-le-mul_right base below in
    omega (arith, longer, opened, times, suc-mul v base)
