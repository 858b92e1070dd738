use Rattle.std.proofs.Common.{◌≡◌, Bool, IfOk, OnOk, subst}
use Rattle.std.specs.List.{position_or_len}
use Rattle.indexmap.specs.IndexSet.{insert_key}
use Rattle.rsp_numbering.specs.declared.variable.Variable.{Variable}
use Rattle.rsp_numbering.specs.Same.{same_test, same_tests}
use Rattle.rsp_numbering.proofs.Newness.{older_after}
use Rattle.rsp_numbering.proofs.before.number_of.Goals as goal

pub returns-clause-number : goal.returns-clause-number
returns-clause-number c =
    let P : (Variable → Bool) → Type 0 = λ p. IfOk c.inserted.result (λ n. n ≡ position_or_len p c.args.variables.now.keys) in
    subst P (same_test c.args.variable) c.inserted.ensures.number

pub returns-clause-behind : goal.returns-clause-behind
returns-clause-behind c =
    let P : (Variable → Variable → Bool) → Type 0 =
    λ eq. OnOk c.inserted.result (c.inserted.new.variables.keys ≡ insert_key eq c.args.variables.now.keys c.args.variable) in
    subst P same_tests c.inserted.ensures.behind

pub returns-clause-older : goal.returns-clause-older
returns-clause-older c =
    older_after c.inserted.result c.args.variables.now.keys c.inserted.new.variables.keys c.args.variable
    (returns-clause-behind c) c.inserted.ensures.kept
