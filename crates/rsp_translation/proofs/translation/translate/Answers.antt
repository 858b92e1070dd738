use Rattle.std.proofs.Common.{◌∙◌, sym}
use Rattle.rsp_query.specs.Meanings.{registered}
use Rattle.rsp_translation.proofs.Fitting.{placed}
use Rattle.rsp_translation.proofs.Causes.{never_memory}
use Rattle.rsp_translation.proofs.translation.translate.Goals as goal

pub returns-clause-placed : goal.returns-clause-placed
returns-clause-placed c =
    λ sound.
    placed (registered c.args.query.now) c.in_ok-translated.field-0 sound
    (record {
      sound = sym c.in_ok-fault.ensures ∙ c.in_default.is;
      tree = c.in_ok-translated.ensures.tree;
      width = c.in_ok-translated.ensures.width;
      shown = c.in_ok-translated.ensures.shown;
    })

pub returns-clause-causes : goal.returns-clause-causes
returns-clause-causes c = λ q h. never_memory q h
