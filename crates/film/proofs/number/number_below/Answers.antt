use Rattle.std.proofs.Common.{◌≡◌, ◌<◌, length, get_or, take, sym, ap, ◌∙◌, arith, rules}
use Rattle.std.specs.Char.{digit_value}
use Rattle.std.proofs.lemmas.List.{take_all}
use Rattle.std.proofs.lemmas.Int.Digits.{digits_value_more, digits_more}
use Rattle.std.proofs.lemmas.Bool.{eqb-false}
use Rattle.film.proofs.Numerals.{writes_some, writes_short, writes_digit, writes_value, writes_first, front_short, writes_back, below_some, below_none}
use Rattle.film.proofs.Splits.{nothing_follows}
use Rattle.film.proofs.number.number_below.Goals as goal
use Rattle.film.proofs.number.number_below.Goals.{then-is_empty-via-then-is_empty, then-is_empty-via-else-is_empty+then-field-gt5, then-field-lt2, else-field-lt2+in_default-1}

pub returns-then-is_empty-clause-is : goal.returns-then-is_empty-clause-is
returns-then-is_empty-clause-is c =
    below_none c.args.limit c.args.field.now (λ n h e.
    let some = writes_some c.args.field.now n (omega arith) e in
    let short = writes_short c.args.field.now n (omega arith) e in
    elim c.then-is_empty.branch [ then-is_empty-via-then-is_empty w ↦ omega (arith, nothing_follows c.args.field.now c.is_empty.result c.is_empty.ensures w.if-is_empty.true) | then-is_empty-via-else-is_empty+then-field-gt5 w ↦ omega arith ])

pub returns-in-48-clause-is : goal.returns-in-48-clause-is
returns-in-48-clause-is c =
    below_none c.args.limit c.args.field.now (λ n h e. omega (arith, writes_first c.args.field.now n (omega arith) e (omega arith), c.in-48.len_at_least))

pub overflow_mul-number : goal.overflow_mul-number
overflow_mul-number c =
    let f = front_short c.args.field.now c.loop-byte.byte-index c.loop-byte-test.true c.if-field-gt5.false c.loop-byte.invariant.1 in
    omega (arith, c.loop-byte.invariant.0)

pub overflow_add-number : goal.overflow_add-number
overflow_add-number c =
    let f = front_short c.args.field.now c.loop-byte.byte-index c.loop-byte-test.true c.if-field-gt5.false c.loop-byte.invariant.1 in
    let e = c.in_ok-number.ensures.value in
    omega (arith, c.loop-byte.invariant.0, e.0, e.1)

pub returns-in_err-number-clause-is : goal.returns-in_err-number-clause-is
returns-in_err-number-clause-is c =
    let none = below_none c.args.limit c.args.field.now (λ n h e.
    let d = writes_digit c.args.field.now n (omega arith) e c.loop-byte.byte-index c.loop-byte-test.true in
    omega (arith, c.in_err-number.ensures.cases, d.0, d.1, c.from.ensures)) in
    rw c.from_residual.ensures none

pub loop-byte-preserved : goal.loop-byte-preserved
loop-byte-preserved c =
    let bs = c.args.field.now in
    let i = c.loop-byte.byte-index in
    let d = c.in_ok-number.ensures.value in
    let at : digit_value (get_or bs i 0) ≡ digit_value c.from.result = ap digit_value (sym c.from.ensures) in (
      cc (digits_value_more 10 bs i c.loop-byte-test.true),
      digits_more 10 bs i c.loop-byte-test.true c.loop-byte.invariant.1 (omega (arith, at, d.0)),
    )

pub returns-then-number-limit-clause-is : goal.returns-then-number-limit-clause-is
returns-then-number-limit-clause-is c =
    let bs = c.args.field.now in
    let t : take c.loop-byte.byte-index bs ≡ bs = take_all c.loop-byte.byte-index bs (omega arith) in
    let some : 0 < length bs = omega (arith, eqb-false _ _ (sym c.is_empty.ensures ∙ c.if-is_empty.false)) in
    let first : get_or bs 0 0 ≡ 48 → length bs ≡ 1 = λ z. elim c.if-field-lt2.branch [ then-field-lt2 w ↦ search rules | else-field-lt2+in_default-1 w ↦ search rules ] in
    let w = writes_back bs c.loop-byte.number (rw t at c.loop-byte.invariant.1) some first (rw t at c.loop-byte.invariant.0) (omega arith) in
    below_some c.args.limit bs c.loop-byte.number c.requires c.if-number-limit.true w

pub returns-else-number-limit-clause-is : goal.returns-else-number-limit-clause-is
returns-else-number-limit-clause-is c =
    let bs = c.args.field.now in
    let t : take c.loop-byte.byte-index bs ≡ bs = take_all c.loop-byte.byte-index bs (omega arith) in
    below_none c.args.limit bs (λ n h e. omega (arith, writes_value bs n (omega arith) e, rw t at c.loop-byte.invariant.0, c.if-number-limit.false))
