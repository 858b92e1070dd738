use Rattle.std.proofs.Common.{sym, ◌∙◌}
use Rattle.std.proofs.lemmas.Result.{IfOk-weaker}
use Rattle.std.specs.String.{string_bytes}
use Rattle.std.proofs.lemmas.Str.{IsUtf8-past_char}
use Rattle.rsp_said.proofs.EscapeSteps.{one_more, at_end}
use Rattle.rsp_said.proofs.escapes.unescaped.Goals as goal

pub loop-c-preserved : goal.loop-c-preserved
loop-c-preserved c =
    let held = c.loop-c.invariant in
    let parts = c.in-Some.ensures.steps.0 in
    record {
      whole = IsUtf8-past_char _ _ c.in-Some.c held.whole parts;
      same =
          rw (c.in_ok-push_some.ensures, c.step-next.ensures)
          (one_more c.loop-c.state _ _ c.in-Some.c (string_bytes c.loop-c.plain) held.whole parts ∙ held.same);
    }

pub returns : goal.returns
returns c =
    IfOk-weaker c.new.result _ _
    (λ made is.
    is ∙ (c.as_str.ensures.value
    ∙ (sym (at_end c.loop-c.state _ (string_bytes c.loop-c.plain) c.in-None.ensures.steps.0.0) ∙ c.loop-c.invariant.same)))
    c.new.ensures
