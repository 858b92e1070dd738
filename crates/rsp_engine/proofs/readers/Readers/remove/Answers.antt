use Rattle.std.proofs.Common.{rules, refl}
use Rattle.rsp_engine.specs.Readers.{without, without_windows}
use Rattle.rsp_engine.proofs.ReaderLists.{lists_without}
use Rattle.rsp_engine.proofs.readers.Readers.remove.Goals as goal

pub returns-clause-watchers : goal.returns-clause-watchers
returns-clause-watchers c =
    lists_without (without c.args.place) refl _ _ (λ k old b new g call. search rules) _ _ c.retain.ensures.filtered

pub returns-clause-windows : goal.returns-clause-windows
returns-clause-windows c =
    lists_without (without_windows c.args.place) refl _ _ (λ k old b new g call. search rules) _ _ c.retain-2.ensures.filtered
