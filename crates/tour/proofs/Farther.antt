-- One more place seen. Assumes nothing.
use Rattle.std.proofs.Common.{◌≡◌, ℕ, ◌+◌, ◌≤◌, max, ◌⊎◌, List, ℤ, inl, inr, ⊎_elim, arith, below_more}
use Rattle.tour.specs.Distances.{apart, Greatest}

larger : (a r : ℕ) → (max a r ≡ a) ⊎ (max a r ≡ r)
larger a r = grind arith

pub one_more : (n : ℕ) (xs ys : List ℤ) (r : ℕ) → Greatest n xs ys r → Greatest (n + 1) xs ys (max (apart xs ys n) r)
one_more n xs ys r g =
    record {
      most = below_more _ _ (λ k h. let p : apart xs ys k ≤ r = g.most k h in grind arith) (grind arith);
      met =
          ⊎_elim (λ e. inr (n, omega arith, omega (arith, e)))
          (λ e. ⊎_elim (λ z. inl (omega (arith, e, z))) (λ m. inr (m.0, omega (arith, m.1), omega (arith, e, m.2))) g.met)
          (larger (apart xs ys n) r);
    }
