-- What it is to be a side and to have a shape. Assumes nothing.
use Rattle.std.proofs.Common.{◌≡◌, ℕ, ◌*◌, ◌<◌, ◌≤◌, true, ◌&&◌, eqb, ◌⊎◌, inl, inr, ⊎_elim, arith}
use Rattle.std.proofs.lemmas.Bool.{and_parts, or_cases, eqb-true}
use Rattle.transform.specs.Meaning.{sided}
use Rattle.transform.specs.Outcome.{shaped}

pub side_cases : (n : ℕ) → sided n ≡ true → (n ≡ 4) ⊎ ((n ≡ 8) ⊎ ((n ≡ 16) ⊎ (n ≡ 32)))
side_cases n h = ⊎_elim (λ a. inl (eqb-true n 4 a)) (λ a. inr (⊎_elim (λ b. inl (eqb-true n 8 b)) (λ b. inr (⊎_elim (λ d. inl (eqb-true n 16 d)) (λ d. inr (eqb-true n 32 d)) (or_cases (eqb n 16) (eqb n 32) b))) (or_cases (eqb n 8) _ a))) (or_cases (eqb n 4) _ h)

pub side_range : (n : ℕ) → sided n ≡ true → (0 < n) × (n ≤ 32)
side_range n h = let c = side_cases n h in omega arith

-- a shape: a side, and two lengths of side · side
pub shape_parts : (side given room : ℕ) → shaped side given room ≡ true → (sided side ≡ true) × (given ≡ side * side) × (room ≡ side * side)
shape_parts side given room h =
    let p = and_parts (sided side) (eqb given (side * side) && eqb room (side * side)) h in
    let q = and_parts (eqb given (side * side)) (eqb room (side * side)) p.1 in
    (p.0, eqb-true given (side * side) q.0, eqb-true room (side * side) q.1)
