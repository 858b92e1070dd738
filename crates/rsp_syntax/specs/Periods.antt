-- Words of the way: the periods that a policy's words ask, which `parse` promises and the engine's calls of rsp_report ask.
use Rattle.std.specs.Prelude.{◌<◌}
use Rattle.std.specs.Option.{ForSome}
use Rattle.rsp_report.specs.declared.words.PolicyWords.{PolicyWords}
use Rattle.rsp_report.specs.Policies.{choice_of}

-- the EVERY that counts, where there is one, asks at least 1 ms
abbrev pub HasPeriods : PolicyWords → Type 0
HasPeriods words = ForSome (choice_of words).period (λ period. 0 < period)
