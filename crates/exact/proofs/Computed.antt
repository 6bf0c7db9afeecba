-- What holds at each number below a bound, by one test that the checker computes. Assumes nothing.
use Rattle.std.proofs.Common.{ℕ, zero, suc, ◌<◌, Bool, true, false, ◌&&◌, T, sym, subst, ⊎_elim, arith}
use Rattle.std.proofs.lemmas.Bool.{cases_eq}

abbrev pub each : (ℕ → Bool) → ℕ → Bool
each p zero = true
each p (suc n) = p n && each p n

pub left_of : (a b : Bool) → T (a && b) → T a
left_of true b t = tt
left_of false b t = absurd t

pub right_of : (a b : Bool) → T (a && b) → T b
right_of true b t = t
right_of false b t = absurd t

pub upto : (p : ℕ → Bool) (n : ℕ) → T (each p n) → (k : ℕ) → k < n → T (p k)
upto p zero t k h = absurd (omega arith)
upto p (suc n) t k h = ⊎_elim
    (λ e. subst (λ (m : ℕ). T (p m)) (sym e) (left_of (p n) (each p n) t))
    (λ ne. upto p n (right_of (p n) (each p n) t) k (omega arith))
    (cases_eq k n)
