use Rattle.std.proofs.Common.{◌∷◌, map}
use Rattle.rsp_streams_out.proofs.Tabs.{first_written}
use Rattle.rsp_streams_out.proofs.text.push_names.Goals as goal

pub loop-variable-init : goal.loop-variable-init
loop-variable-init c =
    let first = 63 ∷ c.in-Some.first.now in
    let others = map (λ name. 63 ∷ name) c.in-Some.others.now in
    record {
      text = rw (c.in_ok-push_variable.ensures.ok, c.in-Some.ensures.cases.0) (first_written c.args.out.now.items first others);
      begun = (first, c.in_ok-push_variable.ensures.ok);
    }
