-- The entries of the cosine matrices are at most 90 in magnitude. Assumes nothing.
use Rattle.std.specs.Prelude.{◌≡◌, ℕ, zero, suc, ◌+◌, ◌-◌, ◌*◌, ◌/◌, ◌%◌, ◌<◌, ◌≤◌, Bool, true, false, ◌&&◌, T, List, [], ◌∷◌, map, pos, neg_ℤ, ◌≤ℤ◌, ◌==◌, nat_le, nat_lt, slice_index_or, unsigned_abs, refl}
use Rattle.std.proofs.Common.{add-mul, mul_comm, arith, leb→le}
use Rattle.std.proofs.lemmas.Int.{ints}
use Rattle.std.proofs.lemmas.Bool.{cond_both}
use Rattle.std.proofs.lemmas.Nat.{mul-le, div-add-mod', le-div}
use Rattle.exact.proofs.Computed.{left_of, right_of}
use Rattle.hevc.specs.Cosine.{first_column, first, folded, at_angle, cosine32, cosine, turned_if}

-- every number of the list is at most m
abbrev below : ℕ → List ℕ → Bool
below m [] = true
below m (x ∷ xs) = nat_le x m && below m xs

at_list : (m : ℕ) (xs : List ℕ) → T (below m xs) → (k : ℕ) → (n : ℕ) × (n ≤ m) × (slice_index_or (map pos xs) k (pos 0) ≡ pos n)
at_list m [] t k = (0, omega arith, refl)
at_list m (x ∷ xs) t zero = (x, leb→le x m (left_of (nat_le x m) (below m xs) t), refl)
at_list m (x ∷ xs) t (suc k) = at_list m xs (right_of (nat_le x m) (below m xs) t) k

first_is : (t : ℕ) → (n : ℕ) × (n ≤ 90) × (first t ≡ pos n)
unfolding first
first_is t = at_list 90 first_column tt t

pub first_small : (t : ℕ) → (pos 0 ≤ℤ first t) × (first t ≤ℤ pos 90)
first_small t = let (n, h, e) = first_is t in omega (arith, ints)

pub first_past : first 32 ≡ pos 0
unfolding first
first_past = refl

first_abs : (t : ℕ) → unsigned_abs (first t) ≤ 90
first_abs t = omega (arith, ints, first_small t)

angle_abs : (t : ℕ) → unsigned_abs (at_angle t) ≤ 90
angle_abs t = cond_both (nat_lt t 32) (first t) (neg_ℤ (first (64 - t))) (λ z. unsigned_abs z ≤ 90) (λ _. first_abs t) (λ _. omega (arith, ints, first_abs (64 - t)))

pub cosine_abs : (k n : ℕ) → unsigned_abs (cosine32 k n) ≤ 90
unfolding cosine32
cosine_abs k n = cond_both (k == 0) (pos 64) (at_angle (folded (((2 * n + 1) * k) % 128))) (λ z. unsigned_abs z ≤ 90) (λ _. omega arith) (λ _. angle_abs _)

pub turned_abs : (t : Bool) (side i j : ℕ) → unsigned_abs (turned_if t (cosine side) i j) ≤ 90
turned_abs true side i j = cosine_abs _ _
turned_abs false side i j = cosine_abs _ _

-- row k of a side's matrix is a row of the 32-point one
pub row_within : (k s : ℕ) → 0 < s → s ≤ 32 → k < s → k * (32 / s) < 32
row_within k s h le lt = omega (arith, mul-le (k + 1) (32 / s) s (32 / s) (omega arith) (omega arith), div-add-mod' 32 s, le-div 1 32 s h (omega arith), add-mul k 1 (32 / s), mul_comm s (32 / s))
