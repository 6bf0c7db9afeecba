-- The nearest whole number is the closest one and the only one, a shift that rounds is at most half a step off, and a clipped number has 16 bits.
use Rattle.std.proofs.Common.{◌≡◌, ℕ, suc, ◌+◌, ◌-◌, ◌*◌, ◌/◌, ◌^◌, ◌<◌, ◌≤◌, cond, ℤ, pos, negsuc, ◌+ℤ◌, ◌-ℤ◌, ◌*ℤ◌, neg_ℤ, nat_abs, ◌≤ℤ◌, ◌<ℤ◌, sym, refl, ap, ◌∙◌, ap₂, arith}
use native.Mathlib.Nat.{div-div-eq-div-mul}
use lib.Signed.{lt_z, shr_z}
use borrow.Author.Differences.{up, down, ints, sum_is_lem, neg_is, product_is, abs_is, lt_out}
use Rattle.std.proofs.lemmas.Int.{by_lt_z, unsigned_abs-mul}
use Rattle.std.proofs.lemmas.Nat.{pow_pos, pow-add, mul-le, div-add-mod', mod_below, div_below}
use Rattle.std.proofs.lemmas.Bool.{cond_both}
use Rattle.exact.specs.Rounding.{clip16, round_shift, nearest, Closest}

-- ---- the nearest whole number
twice : (d : ℕ) → 0 < d → 0 < 2 * d
twice d p = omega arith

-- the quotient q of a magnitude a
quotient_is : (a d q : ℕ) → 0 < d → q ≡ (2 * a + (d - 1)) / (2 * d) → (2 * (d * q) < 2 * a + d) × (2 * a ≤ 2 * (d * q) + d)
quotient_is a d q p e = rw e
    (let s = div-add-mod' (2 * a + (d - 1)) (2 * d) in
    let l = mod_below (2 * a + (d - 1)) (2 * d) (twice d p) in
    omega arith)

up_closest : (a d q : ℕ) → (2 * (d * q) < 2 * a + d) × (2 * a ≤ 2 * (d * q) + d) → Closest (pos a) d (pos q)
up_closest a d q f = record { half = omega (arith, abs_is, sum_is_lem, neg_is); tie = λ e. omega (arith, abs_is, sum_is_lem, neg_is) }

down_closest : (a d q : ℕ) → (2 * (d * q) < 2 * suc a + d) × (2 * suc a ≤ 2 * (d * q) + d) → Closest (negsuc a) d (neg_ℤ (pos q))
down_closest a d q f =
    let n = neg_is (pos q) in
    let u : d * up (neg_ℤ (pos q)) ≡ 0 = ap (λ x. d * x) n.0 ∙ omega arith in
    let w : d * down (neg_ℤ (pos q)) ≡ d * q = ap (λ x. d * x) n.1 in
    let m : d * nat_abs (neg_ℤ (pos q)) ≡ d * q = ap (λ x. d * x) (omega (arith, abs_is, neg_is)) in
    record { half = omega (arith, abs_is, sum_is_lem, neg_is, product_is); tie = λ e. omega (arith, abs_is, sum_is_lem, neg_is, product_is) }

pub nearest_closest : (y : ℤ) (d : ℕ) → 0 < d → Closest y d (nearest y d)
unfolding nearest
nearest_closest (pos a) d p = up_closest a d _ (quotient_is a d _ p refl)
nearest_closest (negsuc a) d p = down_closest a d _ (quotient_is (suc a) d _ p refl)

-- two multiples a and b of d, one step apart, are not both closest to y
not_both : (d : ℕ) (a b y : ℤ) → 0 < d → up a + down b + d ≤ up b + down a → 2 * nat_abs (a -ℤ y) ≤ d → 2 * nat_abs (b -ℤ y) ≤ d → (2 * nat_abs (a -ℤ y) ≡ d → nat_abs a ≤ nat_abs y) → (2 * nat_abs (b -ℤ y) ≡ d → nat_abs b ≤ nat_abs y) → ⊥
not_both d a b y p l h k s t =
    let e = s (omega (arith, abs_is, sum_is_lem, neg_is)) in
    let f = t (omega (arith, abs_is, sum_is_lem, neg_is)) in
    omega (arith, abs_is, sum_is_lem, neg_is)

not_below : (y : ℤ) (d : ℕ) (z q : ℤ) → 0 < d → Closest y d z → Closest y d q → z <ℤ q → ⊥
not_below y d z q p h k l =
    not_both d (pos d *ℤ z) (pos d *ℤ q) y p
    (let m = mul-le d (up z + down q + 1) d (up q + down z) (omega arith) (omega (arith, lt_out z q l)) in omega (arith, product_is))
    h.half k.half
    (λ e. rw (unsigned_abs-mul (pos d) z) (h.tie e))
    (λ e. rw (unsigned_abs-mul (pos d) q) (k.tie e))

pub nearest_only : (y : ℤ) (d : ℕ) → 0 < d → (z : ℤ) → Closest y d z → z ≡ nearest y d
nearest_only y d p z h =
    by_lt_z z (nearest y d)
    (λ l. absurd (not_below y d z (nearest y d) p h (nearest_closest y d p) l))
    (λ g. by_lt_z (nearest y d) z
    (λ l. absurd (not_below y d (nearest y d) z p (nearest_closest y d p) h l))
    (λ k. omega (arith, ints)))

pub quotient_within : (a d m : ℕ) → 0 < d → a ≤ m * d → (2 * a + (d - 1)) / (2 * d) ≤ m
quotient_within a d m p h =
    let b = div_below (2 * a + (d - 1)) (2 * d) (m + 1) (twice d p) (omega arith) in
    omega arith

pub quotient_small : (a d : ℕ) → 0 < d → (2 * a + (d - 1)) / (2 * d) ≤ a
quotient_small a d p = quotient_within a d a p (omega (arith, mul-le a 1 a d (omega arith) p))

-- a quotient at most m in magnitude has a nearest whole number that is
pub nearest_within : (y : ℤ) (d m : ℕ) → 0 < d → nat_abs y ≤ m * d → nat_abs (nearest y d) ≤ m
unfolding nearest
nearest_within (pos a) d m p h = quotient_within a d m p h
nearest_within (negsuc a) d m p h = let q = quotient_within (suc a) d m p h in omega (arith, abs_is, neg_is)

pub nearest_abs : (y : ℤ) (d : ℕ) → 0 < d → nat_abs (nearest y d) ≤ nat_abs y
nearest_abs y d p = nearest_within y d (nat_abs y) p (omega (arith, mul-le (nat_abs y) 1 (nat_abs y) d (omega arith) p))

-- ---- the shift that rounds
double : (k : ℕ) → 1 ≤ k → 2 ^ k ≡ 2 * 2 ^ (k - 1)
double k h = let e : k ≡ 1 + (k - 1) = omega arith in ap (λ n. 2 ^ n) e ∙ pow-add 2 1 (k - 1)

shr_is : (z : ℤ) (m : ℕ) → 0 < m → (up (pos m *ℤ shr_z z m) + down z ≤ up z + down (pos m *ℤ shr_z z m)) × (up z + down (pos m *ℤ shr_z z m) < up (pos m *ℤ shr_z z m) + down z + m)
shr_is (pos a) m p = omega (arith, div-add-mod' a m, mod_below a m p)
shr_is (negsuc a) m p = omega (arith, product_is (pos m) (negsuc (a / m)), div-add-mod' a m, mod_below a m p)

shr_near : (z : ℤ) (m h : ℕ) → 0 < h → m ≡ 2 * h → nat_abs (pos m *ℤ shr_z (z +ℤ pos h) m -ℤ z) ≤ h
shr_near z m h p e = let f = shr_is (z +ℤ pos h) m (omega arith) in omega (arith, abs_is, sum_is_lem, neg_is)

pub round_near : (z : ℤ) (k : ℕ) → 1 ≤ k → nat_abs (pos (2 ^ k) *ℤ round_shift z k -ℤ z) ≤ 2 ^ (k - 1)
round_near z k l = shr_near z (2 ^ k) (2 ^ (k - 1)) (pow_pos (k - 1)) (double k l)

negsuc_sixteen : (a : ℕ) → negsuc a *ℤ pos 16 ≡ negsuc (16 * a + 15)
negsuc_sixteen a = omega (arith, ints)

shr_sixteen : (z : ℤ) (m : ℕ) → shr_z (z *ℤ pos 16) (16 * m) ≡ shr_z z m
shr_sixteen (pos a) m = ap pos (sym (div-div-eq-div-mul (a * 16) 16 m) ∙ ap (λ n. n / m) (omega arith))
shr_sixteen (negsuc a) m = ap (λ z. shr_z z (16 * m)) (negsuc_sixteen a) ∙ ap negsuc (sym (div-div-eq-div-mul (16 * a + 15) 16 m) ∙ ap (λ n. n / m) (omega arith))

half_sixteen : (k : ℕ) → 1 ≤ k → 2 ^ (k + 3) ≡ 16 * 2 ^ (k - 1)
half_sixteen k l = omega (arith, pow-add 2 k 3, double k l)

out_sixteen : (z : ℤ) (k : ℕ) → 1 ≤ k → z *ℤ pos 16 +ℤ pos (2 ^ (k + 3)) ≡ (z +ℤ pos (2 ^ (k - 1))) *ℤ pos 16
out_sixteen z k l = rw (half_sixteen k l) (omega (arith, ints))

pub round_sixteen : (z : ℤ) (k : ℕ) → 1 ≤ k → shr_z (z *ℤ pos 16 +ℤ pos (2 ^ (k + 3))) (2 ^ (k + 4)) ≡ round_shift z k
round_sixteen z k l =
    ap₂ shr_z (out_sixteen z k l) (omega (arith, pow-add 2 k 4))
    ∙ shr_sixteen (z +ℤ pos (2 ^ (k - 1))) (2 ^ k)

-- ---- clipping
pub clip_fits : (z : ℤ) → (negsuc 32767 ≤ℤ clip16 z) × (clip16 z ≤ℤ pos 32767)
clip_fits z =
    cond_both (lt_z (pos 32767) z) (pos 32767) (cond (lt_z z (negsuc 32767)) (negsuc 32767) z) (λ r. (negsuc 32767 ≤ℤ r) × (r ≤ℤ pos 32767))
    (λ _. omega (arith, ints))
    (λ h. cond_both (lt_z z (negsuc 32767)) (negsuc 32767) z (λ r. (negsuc 32767 ≤ℤ r) × (r ≤ℤ pos 32767))
    (λ _. omega (arith, ints))
    (λ l. omega (arith, ints)))

pub clip_abs : (z : ℤ) → nat_abs (clip16 z) ≤ 32768
clip_abs z = omega (arith, ints, clip_fits z)
