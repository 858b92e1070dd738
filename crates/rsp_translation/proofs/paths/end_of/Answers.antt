use Rattle.std.proofs.Common.{◌≡◌, ℕ, ◌≤◌, List, [], ◌∷◌, length, map, refl, arith}
use Rattle.rsp_expr.specs.declared.slot.Slot.{Slot}
use Rattle.rsp_expr.specs.declared.slot.Slot.TheVariants.{Variable}
use Rattle.rsp_query.specs.declared.path.Path.{Path}
use Rattle.rsp_query.specs.Paths.{ways_in}
use Rattle.rsp_query.specs.Meanings.{way_of}
use Rattle.rsp_translation.specs.Paths as paths
use Rattle.rsp_translation.proofs.paths.end_of.Goals as goal

before_another : (object : Slot) (v : ℕ) (following : List Path) → 1 ≤ length following → Variable v ≡ paths.end_of object v (ways_in (map way_of following))
before_another object v [] some = absurd (omega arith)
before_another object v (next ∷ others) some = refl

pub returns-in-len1-up : goal.returns-in-len1-up
returns-in-len1-up c = before_another _ _ _ c.in-len1-up.len_at_least
