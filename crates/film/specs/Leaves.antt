-- The fields of leaves: pairs of position and level, and samples. Assumes nothing.
use Rattle.std.specs.Prelude.{ℕ, zero, suc, ◌<◌, cond, List, [], ◌∷◌, length, replicate, ℤ, pos, negsuc, Some, None, Ok, Err, decimal, Option, Result, ◌==◌, slice_set}
use Rattle.std.specs.Fmt.{signed_decimal}
use Rattle.film.specs.declared.fault.Fault.{Fault}
use Rattle.film.specs.declared.fault.Fault.TheVariants.{BadLine, BadField}
use Rattle.film.specs.Faults.{or_bad_field}
use Rattle.film.specs.Fields.{begun, fields}
use Rattle.film.specs.Numbers.{number_below, position_in, level_in}

-- a position and its level
abbrev pub Pair : Type 0
Pair = ℕ × ℤ

-- one pair more in front
abbrev pub with_pair : Pair → Result (List Pair) Fault → Result (List Pair) Fault
with_pair p (Ok ps) = Ok (p ∷ ps)
with_pair p (Err e) = Err e

-- a pair if both fields can be read, and the pairs after it
abbrev pub pair_then : Option ℕ → Option ℤ → (ℕ → Result (List Pair) Fault) → Result (List Pair) Fault
pair_then None level more = Err BadField
pair_then (Some p) None more = Err BadField
pair_then (Some p) (Some z) more = with_pair (p, z) (more p)

-- the pairs that whole pairs of fields write, for a block of n places: the positions rise, and none is below `from`
unfoldable pub pairs_from : ℕ → ℕ → List (List ℕ) → Result (List Pair) Fault
pairs_from from n [] = Ok []
pairs_from from n (f ∷ []) = Err BadLine
pairs_from from n (f ∷ g ∷ fs) = pair_then (position_in from n f) (level_in g) (λ p. pairs_from (suc p) n fs)

-- 10 where a field is left over
abbrev pub paired : {X : Type 0} → List X → Option Fault
paired [] = None
paired (x ∷ []) = Some BadLine
paired (x ∷ y ∷ zs) = paired zs

-- each level at its position
abbrev pub spread : List ℤ → List Pair → List ℤ
spread zs [] = zs
spread zs (p ∷ ps) = spread (slice_set zs p.0 p.1) ps

-- the same, where the pairs could be read
abbrev pub spread_all : List ℤ → Result (List Pair) Fault → Result (List ℤ) Fault
spread_all zs (Ok ps) = Ok (spread zs ps)
spread_all zs (Err e) = Err e

-- the refusal, or else the outcome
abbrev pub unless : {X : Type 0} → Option Fault → Result X Fault → Result X Fault
unless None r = r
unless (Some e) r = Err e

-- the block of n levels that a transform leaf's fields write: zeros but for the pairs
unfoldable pub levels_in : ℕ → List (List ℕ) → Result (List ℤ) Fault
levels_in n fs = unless (paired fs) (spread_all (replicate n (pos 0)) (pairs_from 0 n fs))

-- the levels that are not 0, with their positions counted from i on
abbrev pub nonzeros : ℕ → List ℤ → List Pair
nonzeros i [] = []
nonzeros i (pos zero ∷ zs) = nonzeros (suc i) zs
nonzeros i (pos (suc n) ∷ zs) = (i, pos (suc n)) ∷ nonzeros (suc i) zs
nonzeros i (negsuc n ∷ zs) = (i, negsuc n) ∷ nonzeros (suc i) zs

-- the fields of pairs
abbrev pub pair_fields : List Pair → List (List ℕ)
pair_fields [] = []
pair_fields (p ∷ ps) = decimal p.0 ∷ signed_decimal p.1 ∷ pair_fields ps

-- one sample more in front
abbrev pub with_sample : Option ℕ → Option (List ℕ) → Option (List ℕ)
with_sample (Some s) (Some ss) = Some (s ∷ ss)
with_sample (Some s) None = None
with_sample None ss = None

-- the samples that fields write
unfoldable pub samples_of : List (List ℕ) → Option (List ℕ)
samples_of [] = Some []
samples_of (f ∷ fs) = with_sample (number_below 256 f) (samples_of fs)

-- the block of n samples that a raw leaf's fields write
unfoldable pub samples_in : ℕ → List (List ℕ) → Result (List ℕ) Fault
samples_in n fs = cond (length fs == n) (or_bad_field (samples_of fs)) (Err BadLine)

-- what follows a letter is judged first by its first byte
abbrev pub if_begun : {X : Type 0} → List ℕ → Result X Fault → Result X Fault
if_begun tail r = cond (begun tail) r (Err BadLine)

-- the block of n levels, or of n samples, of what follows a leaf's letter
abbrev pub levels_after : ℕ → List ℕ → Result (List ℤ) Fault
levels_after n tail = if_begun tail (levels_in n (fields tail))

abbrev pub samples_after : ℕ → List ℕ → Result (List ℕ) Fault
samples_after n tail = if_begun tail (samples_in n (fields tail))

-- what a call answers: the refusal, or that the block was written
abbrev pub answered : {X : Type 0} → Result X Fault → Result (Unit {0}) Fault
answered (Ok x) = Ok tt
answered (Err e) = Err e

-- what a call gave: its refusal, or what the block holds after it
abbrev pub given : {X : Type 0} → Result (Unit {0}) Fault → X → Result X Fault
given (Ok u) written = Ok written
given (Err e) written = Err e

-- a pair of fields: position and level, or 11
abbrev pub pair_of : Option ℕ → Option ℤ → Result Pair Fault
pair_of (Some p) (Some z) = Ok (p, z)
pair_of (Some p) None = Err BadField
pair_of None level = Err BadField

abbrev pub read_pair : ℕ → ℕ → List ℕ → List ℕ → Result Pair Fault
read_pair from n f g = pair_of (position_in from n f) (level_in g)

-- the least position that may come next
abbrev pub behind_pair : ℕ → Result Pair Fault → ℕ
behind_pair from (Ok p) = suc p.0
behind_pair from (Err e) = from

-- what pairs of fields are read as, one after another; a field that is left over is not looked at
abbrev pub pair_reads : ℕ → ℕ → List (List ℕ) → List (Result Pair Fault)
pair_reads from n [] = []
pair_reads from n (f ∷ []) = []
pair_reads from n (f ∷ g ∷ fs) = read_pair from n f g ∷ pair_reads (behind_pair from (read_pair from n f g)) n fs

-- the pairs that were read, or the first refusal
abbrev pub gathered : List (Result Pair Fault) → Result (List Pair) Fault
gathered [] = Ok []
gathered (Ok p ∷ rs) = with_pair p (gathered rs)
gathered (Err e ∷ rs) = Err e

-- a pair that was read has its position below n
abbrev pub IsWithin : ℕ → Result Pair Fault → Type 0
IsWithin n (Ok p) = p.0 < n
IsWithin n (Err e) = Unit {0}
