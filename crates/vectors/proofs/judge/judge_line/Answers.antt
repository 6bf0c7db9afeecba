use Rattle.std.proofs.Common.{inr}
use Rattle.std.proofs.lemmas.Result.{IfOk-weaker}
use Rattle.vectors.proofs.judge.judge_line.Goals as goal

pub returns-in-Ok : goal.returns-in-Ok
returns-in-Ok c = IfOk-weaker c.judge.result _ _ (λ v deserved. inr (c.in-Ok.case, c.in-Ok.ensures, deserved)) c.judge.ensures
