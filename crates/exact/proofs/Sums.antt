-- Laws of sums of integers and of products of matrices. Assumes nothing.
use Rattle.std.proofs.Common.{◌≡◌, ℕ, zero, suc, ◌+◌, ◌*◌, ◌<◌, ◌≤◌, ℤ, pos, ◌+ℤ◌, ◌*ℤ◌, nat_abs, refl, ap, ap₂, suc-mul, add-one, arith}
use lib.IntN.{*ℤ_comm}
use borrow.Author.Differences.{up, down, ints, same_in, product_is}
use Rattle.std.proofs.lemmas.Int.{unsigned_abs-mul}
use Rattle.std.proofs.lemmas.Nat.{mul-le}
use Rattle.exact.specs.Sums.{sum_z, Matrix, product, transposed}

pub sum_none : (f : ℕ → ℤ) → sum_z 0 f ≡ pos 0
unfolding sum_z
sum_none f = refl

pub sum_more : (n : ℕ) (f : ℕ → ℤ) → sum_z (n + 1) f ≡ sum_z n f +ℤ f n
unfolding sum_z
sum_more n f = rw add-one refl

-- equal summands have equal sums
pub sum_ext : (n : ℕ) (f g : ℕ → ℤ) → ((k : ℕ) → k < n → f k ≡ g k) → sum_z n f ≡ sum_z n g
unfolding sum_z
sum_ext zero f g h = refl
sum_ext (suc n) f g h = ap₂ ◌+ℤ◌ (sum_ext n f g (λ k l. h k (omega arith))) (h n (omega arith))

-- the triangle inequality: n summands, none above m in magnitude
pub sum_abs : (n : ℕ) (f : ℕ → ℤ) (m : ℕ) → ((k : ℕ) → k < n → nat_abs (f k) ≤ m) → nat_abs (sum_z n f) ≤ n * m
unfolding sum_z
sum_abs zero f m h = omega arith
sum_abs (suc n) f m h = omega (arith, ints, sum_abs n f m (λ k l. h k (omega arith)), h n (omega arith), suc-mul n m)

pub abs_product : (a b : ℤ) (m n : ℕ) → nat_abs a ≤ m → nat_abs b ≤ n → nat_abs (a *ℤ b) ≤ m * n
abs_product a b m n h k = rw (unsigned_abs-mul a b) (mul-le (nat_abs a) (nat_abs b) m n h k)

pub mul_assoc : (a b c : ℤ) → (a *ℤ b) *ℤ c ≡ a *ℤ (b *ℤ c)
mul_assoc a b c =
    let p = product_is a b in
    let q = product_is b c in
    omega (
      arith,
      same_in,
      product_is,
      ap (λ x. x * up c) p.0,
      ap (λ x. x * down c) p.0,
      ap (λ x. x * up c) p.1,
      ap (λ x. x * down c) p.1,
      ap (λ x. up a * x) q.0,
      ap (λ x. down a * x) q.0,
      ap (λ x. up a * x) q.1,
      ap (λ x. down a * x) q.1,
    )

-- an entry of a product: each factor's entries are bounded
pub product_abs : (n : ℕ) (P Q : Matrix) (i j a b : ℕ) → ((k : ℕ) → k < n → nat_abs (P i k) ≤ a) → ((k : ℕ) → k < n → nat_abs (Q k j) ≤ b) → nat_abs (product n P Q i j) ≤ n * (a * b)
product_abs n P Q i j a b h l = sum_abs n (λ k. P i k *ℤ Q k j) (a * b) (λ k lt. abs_product (P i k) (Q k j) a b (h k lt) (l k lt))

-- a product rests on one row and one column of its factors
pub product_ext : (n : ℕ) (P Q R S : Matrix) (i j : ℕ) → ((k : ℕ) → k < n → P i k ≡ R i k) → ((k : ℕ) → k < n → Q k j ≡ S k j) → product n P Q i j ≡ product n R S i j
product_ext n P Q R S i j h l = sum_ext n (λ k. P i k *ℤ Q k j) (λ k. R i k *ℤ S k j) (λ k lt. ap₂ ◌*ℤ◌ (h k lt) (l k lt))

-- the transpose of a product
pub product_transposed : (n : ℕ) (P Q : Matrix) (i j : ℕ) → product n P Q i j ≡ product n (transposed Q) (transposed P) j i
product_transposed n P Q i j = sum_ext n (λ k. P i k *ℤ Q k j) (λ k. Q k j *ℤ P i k) (λ k _. *ℤ_comm (P i k) (Q k j))
