-- What the HEVC transform means, and what is shown of it. Assumes nothing.
use Rattle.std.specs.Prelude.{◌≡◌, ℕ, ◌-◌, ◌*◌, Bool, ◌&&◌, List, ◌∷◌, replicate, ℤ, pos, negsuc, Some, nat_le}
use Rattle.exact.specs.Sums.{Matrix}
use Rattle.exact.specs.Rounding.{nearest}
use Rattle.transform.specs.Meaning.{Rules, sided}
use Rattle.hevc.specs.Cosine.{cosine}
use Rattle.hevc.specs.Passes.{rebuilt_by, chosen_by}

-- HEVC's rules over a kernel: steps 0 .. 51 at the sides that it serves, with its matrix at each side
abbrev pub rules_of : (ℕ → Bool) → (ℕ → Matrix) → Rules
rules_of served matrix = record {
  usable = λ side step. served side && nat_le step 51;
  chosen = λ side step xs. chosen_by (matrix side) side step xs;
  rebuilt = λ side step xs. Some (rebuilt_by (matrix side) side step xs);
}

-- the rules of HEVC, whose number is 0
abbrev pub hevc : Rules
hevc = rules_of sided cosine

-- a block of side N with only level 0 set
abbrev pub only_first : ℕ → ℕ → List ℤ
only_first N level = pos level ∷ replicate (N * N - 1) (pos 0)

-- worked by hand: at side 4 and step 4 level 1 is lost and level 2 gives 1 everywhere; 3/2 and -3/2 go toward zero
pub record WorkedExamples : Type 0 where
  pub lost : hevc.rebuilt 4 4 (only_first 4 1) ≡ Some (replicate 16 (pos 0))
  pub kept : hevc.rebuilt 4 4 (only_first 4 2) ≡ Some (replicate 16 (pos 1))
  pub above : nearest (pos 3) 2 ≡ pos 1
  pub below : nearest (negsuc 2) 2 ≡ negsuc 0
