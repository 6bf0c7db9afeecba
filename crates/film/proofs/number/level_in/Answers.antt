use Rattle.std.proofs.Common.{◌≡◌, ◌<◌, length, get_or, ap, ◌∙◌, rules, arith}
use Rattle.std.proofs.lemmas.Int.{ints}
use Rattle.std.proofs.lemmas.List.{take_rest}
use Rattle.film.specs.Numbers.{number_below}
use Rattle.film.proofs.Numerals.{minus_none, minus_some, plus_none, plus_some}
use Rattle.film.proofs.number.level_in.Goals as goal
use Rattle.film.proofs.number.level_in.Goals.{in_default-via-then-field-lt1, in_default-via-else-field-lt1+in_default-1}

pub returns-in_err-number_below-in-45 : goal.returns-in_err-number_below-in-45
returns-in_err-number_below-in-45 c =
    rw c.from_residual.ensures
    (minus_none c.args.field.now (omega (arith, c.in-45.len_at_least)) (search rules) (c.in_err-number_below-in-45.ensures.is ∙ ap (number_below 32769) (take_rest c.args.field.now 1)))

pub returns-in_ok-number_below-in-45 : goal.returns-in_ok-number_below-in-45
returns-in_ok-number_below-in-45 c =
    let ok = c.in_ok-number_below-in-45 in
    minus_some c.args.field.now (omega (arith, c.in-45.len_at_least)) (search rules) ok.field-0 _ c.unless_zero.result
    (ok.ensures.is ∙ ap (number_below 32769) (take_rest c.args.field.now 1)) (omega (arith, ints, ok.ensures.below)) c.unless_zero.ensures

pub returns-in_err-number_below-in_default : goal.returns-in_err-number_below-in_default
returns-in_err-number_below-in_default c =
    let plain : 0 < length c.args.field.now → get_or c.args.field.now 0 0 ≡ 45 → ⊥ =
    elim c.in_default.branch [ in_default-via-then-field-lt1 w ↦ λ h e. search rules | in_default-via-else-field-lt1+in_default-1 w ↦ λ h e. search rules ] in
    rw c.from_residual-in_err-number_below-in_default.ensures (plus_none c.args.field.now plain c.in_err-number_below-in_default.ensures.is)

pub returns-in_ok-number_below-in_default : goal.returns-in_ok-number_below-in_default
returns-in_ok-number_below-in_default c =
    let plain : 0 < length c.args.field.now → get_or c.args.field.now 0 0 ≡ 45 → ⊥ =
    elim c.in_default.branch [ in_default-via-then-field-lt1 w ↦ λ h e. search rules | in_default-via-else-field-lt1+in_default-1 w ↦ λ h e. search rules ] in
    let ok = c.in_ok-number_below-in_default in
    plus_some c.args.field.now plain ok.field-0 _ c.unless_zero-in_default.result ok.ensures.is (omega (arith, ints, ok.ensures.below)) c.unless_zero-in_default.ensures
