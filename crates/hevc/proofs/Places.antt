-- Writing a block place after place. Assumes nothing.
use Rattle.std.proofs.Common.{◌≡◌, ℕ, ◌+◌, ◌*◌, ◌/◌, ◌%◌, ◌<◌, ◌≤◌, List, length, set, ℤ, pos, map, get_or, ◌∙◌, ap₂, arith}
use Rattle.std.proofs.lemmas.Int.{to_z-of_z}
use Rattle.std.proofs.lemmas.List.{length-map, get_or-map}
use Rattle.std.proofs.lemmas.List.FromFn.{fill_by_all}
use Rattle.exact.specs.Sums.{Matrix}
use Rattle.exact.specs.Blocks.{at, placed, block, Filled}
use Rattle.hevc.specs.Turning.{turned_by}
use Rattle.exact.proofs.Blocks.{filled_more, mapped_all}

-- one place more, in the row and the column of the place
pub place_more : (n : ℕ) (P : Matrix) (xs : List ℤ) (p i j : ℕ) (v : ℤ) → p < length xs → i ≡ p / n → j ≡ p % n → v ≡ P i j → Filled p (placed n P) xs → Filled (p + 1) (placed n P) (set xs p v)
unfolding placed
place_more n P xs p i j v lt a b e = filled_more (placed n P) xs p v lt (e ∙ ap₂ P a b)

-- the same of a block turned, where the row and the column are told by another name m of the side
pub turned_more : (n m : ℕ) (f : ℤ → ℤ) (sums xs : List ℤ) (p i j : ℕ) (v : ℤ) → m ≡ n → p < length xs → i ≡ p / m → j ≡ p % m → v ≡ f (get_or sums (j * m + i) (pos 0)) → Filled p (placed n (turned_by f n sums)) xs → Filled (p + 1) (placed n (turned_by f n sums)) (set xs p v)
turned_more n m f sums xs p i j v s lt a b e =
    place_more n (turned_by f n sums) xs p i j v lt (rw s at a) (rw s at b) (rw s at e)

-- all places
pub places_all : (n : ℕ) (P : Matrix) (xs : List ℤ) (m : ℕ) → length xs ≡ n * n → n * n ≤ m → Filled m (placed n P) xs → xs ≡ block n P
unfolding block
places_all n P xs m e le h = fill_by_all (placed n P) xs (n * n) (pos 0) e (λ k lt. h k (omega arith))

-- each number of a block through f
pub map_block : (n : ℕ) (f : ℤ → ℤ) (xs : List ℤ) → length xs ≡ n * n → map f xs ≡ block n (λ i j. f (at n xs i j))
map_block n f xs e =
    let l : length (map f xs) ≡ n * n = length-map xs f ∙ e in
    mapped_all n f xs (map f xs) (n * n) l (omega arith) (λ k lt. get_or-map f xs k (pos 0) (pos 0) (omega arith))

-- what a loop over the places needs
pub ruleset places = (to_z-of_z, place_more, turned_more, places_all)
