-- The one outcome of each call: a refusal, judged in the order 31, 32, 33, 34, or what is written. Assumes nothing.
use Rattle.std.specs.Prelude.{ℕ, ◌*◌, Bool, cond, ◌&&◌, List, length, ℤ, codes, Some, None, Ok, Err, Option, Result, ◌==◌}
use Rattle.transform.specs.declared.fault.Fault.{Fault}
use Rattle.transform.specs.declared.fault.Fault.TheVariants.{BadShape, NotUsable, OutOfRange, NothingRebuilt}
use Rattle.transform.specs.Meaning.{Rules, sided, residuals, shorts}

-- the number of a refusal
abbrev pub number : Fault → ℕ
number BadShape = 31
number NotUsable = 32
number OutOfRange = 33
number (NothingRebuilt standard side) = 34

-- its text for people
abbrev pub message : Fault → List ℕ
message BadShape = codes "no side of a block, or not side times side values"
message NotUsable = codes "the standard does not have this side or this step"
message OutOfRange = codes "a residual or a level is out of range"
message (NothingRebuilt standard side) = codes "the levels rebuild to nothing that the standard allows"

-- a side, with a block given and a block to write that are both side · side long
abbrev pub shaped : ℕ → ℕ → ℕ → Bool
shaped side given room = sided side && (given == side * side && room == side * side)

-- the refusal of a call, if any, by whether the shape, the side and step, and the values are legal: in this order
abbrev pub judged : Bool → Bool → Bool → Option Fault
judged shape usable range = cond shape (cond usable (cond range None (Some OutOfRange)) (Some NotUsable)) (Some BadShape)

-- 34 where nothing is rebuilt
abbrev pub or_nothing : ℕ → ℕ → Option (List ℤ) → Result (List ℤ) Fault
or_nothing standard side None = Err (NothingRebuilt standard side)
or_nothing standard side (Some xs) = Ok xs

-- the refusal, or else the outcome
abbrev pub unless : Option Fault → Result (List ℤ) Fault → Result (List ℤ) Fault
unless None outcome = outcome
unless (Some e) outcome = Err e

-- the levels chosen for the residuals xs; `room` is the length of the block to write
unfoldable pub choosing : Rules → ℕ → ℕ → List ℤ → ℕ → Result (List ℤ) Fault
choosing r side step xs room =
    unless (judged (shaped side (length xs) room) (r.usable side step) (residuals xs)) (Ok (r.chosen side step xs))

-- the residuals rebuilt from the levels xs
unfoldable pub rebuilding : Rules → ℕ → ℕ → ℕ → List ℤ → ℕ → Result (List ℤ) Fault
rebuilding r standard side step xs room =
    unless (judged (shaped side (length xs) room) (r.usable side step) (shorts xs)) (or_nothing standard side (r.rebuilt side step xs))

-- what the call answers: the refusal, or that the block was written
abbrev pub answered : Result (List ℤ) Fault → Result (Unit {0}) Fault
answered (Ok xs) = Ok tt
answered (Err e) = Err e

-- a test's answer: the refusal, or that there is none
abbrev pub passed : Option Fault → Result (Unit {0}) Fault
passed None = Ok tt
passed (Some e) = Err e
