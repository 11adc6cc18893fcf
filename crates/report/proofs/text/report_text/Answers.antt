use Rattle.std.proofs.Common.{Ok, Err}
use Rattle.std.proofs.lemmas.Result.{IfOk-weaker}
use Rattle.report.proofs.text.report_text.Goals as goal

pub returns-in-Ok : goal.returns-in-Ok
returns-in-Ok c = IfOk-weaker c.to_string.result _ _ (λ text is. (Ok c.in-Ok.report, c.in-Ok.ensures, is)) c.to_string.ensures.ok

pub returns-in-Err : goal.returns-in-Err
returns-in-Err c =
    IfOk-weaker c.to_string-in-Err.result _ _ (λ text is. (Err c.in-Err.refused, c.in-Err.ensures, is))
    c.to_string-in-Err.ensures.ok
