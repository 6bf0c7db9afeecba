use Rattle.std.proofs.Common.{◌≡◌, ◌+◌, length, decimal, sym, arith}
use Rattle.film.proofs.Digits.{len_digit, len_step, digits_few, digits_short}
use Rattle.film.proofs.field.+digits.Goals as goal

pub returns-then-n-lt10 : goal.returns-then-n-lt10
returns-then-n-lt10 t c = record { is = sym (len_digit c.args.n c.if-n-lt10.true); few = omega arith; short = λ h. omega arith }

pub returns-else-n-lt10 : goal.returns-else-n-lt10
returns-else-n-lt10 t c =
    let e : 1 + c.digits.result ≡ length (decimal c.args.n) = omega (arith, c.digits.ensures.is, len_step c.args.n c.if-n-lt10.false (omega arith)) in
    record { is = e; few = digits_few c.args.n _ (omega arith) e; short = digits_short c.args.n _ e }
