-- Square blocks as lists: reading an entry, and writing one place after another. Assumes nothing.
use Rattle.std.proofs.Common.{◌≡◌, ℕ, ◌+◌, ◌*◌, ◌/◌, ◌%◌, ◌<◌, ◌≤◌, List, length, get_or, set, ℤ, pos, nat_abs, sym, refl, ap, ◌∙◌, subst, ap₂, ⊎_elim, arith}
use Rattle.std.proofs.lemmas.Nat.{mul-add-lt, div-mul-add, mod-mul-add, div_below, mod_below, div-add-mod'}
use Rattle.std.proofs.lemmas.List.FromFn.{get_or-map-range_with_len, length-map-range_with_len, fill_by_all}
use Rattle.std.proofs.lemmas.List.Edits.{fill_by_more}
use Rattle.std.proofs.lemmas.List.{get_or_past}
use Rattle.std.proofs.lemmas.Bool.{cases_lt}
use Rattle.exact.specs.Sums.{Matrix, Bounded}
use Rattle.exact.specs.Blocks.{at, placed, block, Filled}

-- the place of row i, column j lies in the block
pub place_below : (n i j : ℕ) → i < n → j < n → i * n + j < n * n
place_below n i j h l = mul-add-lt i n j n h l

pub length_block : (n : ℕ) (P : Matrix) → length (block n P) ≡ n * n
unfolding block
length_block n P = length-map-range_with_len (placed n P) 0 (n * n)

pub placed_at : (n : ℕ) (P : Matrix) (i j : ℕ) → j < n → placed n P (i * n + j) ≡ P i j
unfolding placed
placed_at n P i j l = ap₂ P (div-mul-add i n j l) (mod-mul-add i n j l)

-- an entry of a block is the matrix's
pub at_block : (n : ℕ) (P : Matrix) (i j : ℕ) → i < n → j < n → at n (block n P) i j ≡ P i j
unfolding block
at_block n P i j h l =
    get_or-map-range_with_len (placed n P) 0 (n * n) (i * n + j) (i * n + j) (pos 0) (place_below n i j h l) (omega arith)
    ∙ placed_at n P i j l

-- two matrices that agree in their first n rows and columns have one block
pub block_ext : (n : ℕ) (P Q : Matrix) → ((i j : ℕ) → i < n → j < n → P i j ≡ Q i j) → block n P ≡ block n Q
unfolding block placed
block_ext n P Q h =
    fill_by_all (placed n Q) (block n P) (n * n) (pos 0) (length_block n P)
    (λ k lt. get_or-map-range_with_len (placed n P) 0 (n * n) k k (pos 0) lt (omega arith) ∙ (let p : 0 < n = positive n k lt in h (k / n) (k % n) (div_below k n n p lt) (mod_below k n p)))
  where
    positive : (n k : ℕ) → k < n * n → 0 < n
    positive n k lt = ⊎_elim (λ (h : 0 < n). h) (λ (h : n ≤ 0). absurd (let e : n ≡ 0 = omega arith in let s : k < 0 * 0 = subst (λ m. k < m * m) e lt in omega arith)) (cases_lt 0 n)

pub block_bounded : (n m : ℕ) (P : Matrix) → ((i j : ℕ) → i < n → j < n → nat_abs (P i j) ≤ m) → Bounded m (block n P)
unfolding block placed
block_bounded n m P h k = ⊎_elim
    (λ (lt : k < n * n). subst (λ (z : ℤ). nat_abs z ≤ m) (sym (get_or-map-range_with_len (placed n P) 0 (n * n) k k (pos 0) lt (omega arith)))
    (⊎_elim (λ (p : 0 < n). h (k / n) (k % n) (div_below k n n p lt) (mod_below k n p))
    (λ (z : n ≤ 0). absurd (let e : n ≡ 0 = omega arith in let s : k < 0 * 0 = subst (λ i. k < i * i) e lt in omega arith)) (cases_lt 0 n)))
    (λ (ge : n * n ≤ k). subst (λ (z : ℤ). nat_abs z ≤ m) (sym (get_or_past (block n P) k (pos 0) (subst (λ i. i ≤ k) (sym (length_block n P)) ge))) (omega arith))
    (cases_lt k (n * n))

-- ---- writing a block, place after place
-- one place more
pub filled_more : (f : ℕ → ℤ) (xs : List ℤ) (i : ℕ) (v : ℤ) → i < length xs → v ≡ f i → Filled i f xs → Filled (i + 1) f (set xs i v)
filled_more f xs i v lt e h = rw e (fill_by_more f xs i (pos 0) lt h)

-- each number of one block through f gives another
pub mapped_all : (n : ℕ) (f : ℤ → ℤ) (ys xs : List ℤ) (m : ℕ) → length xs ≡ n * n → n * n ≤ m → Filled m (λ p. f (get_or ys p (pos 0))) xs → xs ≡ block n (λ i j. f (at n ys i j))
unfolding block placed
mapped_all n f ys xs m e le h = fill_by_all (placed n (λ i j. f (at n ys i j))) xs (n * n) (pos 0) e
    (λ k lt. h k (omega arith) ∙ ap (λ p. f (get_or ys p (pos 0))) (sym (div-add-mod' k n)))

-- a list of n · n numbers is a block of its own entries
pub block_at : (n : ℕ) (xs : List ℤ) → length xs ≡ n * n → xs ≡ block n (at n xs)
block_at n xs e = mapped_all n (λ z. z) xs xs (n * n) e (omega arith) (λ k lt. refl)
