use Rattle.std.proofs.Common.{[], refl, sym, ◌∙◌}
use Rattle.rsp_modes.proofs.Making.{gen_says, no_summary, summary_told}
use Rattle.rsp_modes.proofs.Spending.{all_spent}
use Rattle.rsp_modes.proofs.generator.tell_summary.Goals as goal

pub returns-in-Ok-clause-says : goal.returns-in-Ok-clause-says
returns-in-Ok-clause-says g c =
    let says = gen_says _ _ c.args.count _ _ _ _ _ _ _ _ c.drive-driven.result c.new-feed.ensures.left (c.drive-driven.ensures.drove _ [] refl) c.drive-driven.ensures.none c.requires.new in
    summary_told c.args.count _ _ _ _ _ _ c.in-Ok.field-0 _ c.write_summary.result refl (sym c.stop_of.ensures ∙ c.in-Ok.is) c.tally.ensures says c.write_summary.ensures

pub returns-clause-says : goal.returns-clause-says
returns-clause-says g c =
    let says = gen_says _ _ c.args.count _ _ _ _ _ _ _ _ c.drive-driven.result c.new-feed.ensures.left (c.drive-driven.ensures.drove _ [] refl) c.drive-driven.ensures.none c.requires.new in
    no_summary _ _ _ _ _ _ c.in-Err.stop _ (sym c.stop_of.ensures ∙ c.in-Err.is) says

pub returns-in-Ok-clause-cost : goal.returns-in-Ok-clause-cost
returns-in-Ok-clause-cost g c =
    rw c.new-feed.ensures.left at (all_spent _ _ _ _ [] _ _ _ c.drive-driven.result _ (c.drive-driven.ensures.cost _ [] refl) c.requires.new)

pub returns-clause-cost : goal.returns-clause-cost
returns-clause-cost g c =
    rw c.new-feed.ensures.left at (all_spent _ _ _ _ [] _ _ _ c.drive-driven.result _ (c.drive-driven.ensures.cost _ [] refl) c.requires.new)
