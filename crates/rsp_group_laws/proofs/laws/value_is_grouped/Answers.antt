use Rattle.rsp_group_laws.proofs.Grouping.{grouped-alike}
use Rattle.rsp_group_laws.proofs.laws.value_is_grouped.Goals as goal

pub returns : goal.returns
returns g c = λ aggregates rows alike. grouped-alike _ _ _ _ _ aggregates rows alike
