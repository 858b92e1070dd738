use Rattle.std.proofs.Common.{◌≡◌, ◌+◌, drop}
use Rattle.std.specs.List.{position_or_len}
use Rattle.std.specs.Str.{bytes_eq}
use Rattle.rsp_shapes.specs.Shapes.{declared}
use Rattle.rsp_translation.proofs.places.window_index.Given as goal

abbrev pub invariant-loop-index : goal.invariant-loop-index
invariant-loop-index l =
    l.index + position_or_len (bytes_eq l.name) (declared (drop l.index l.windows))
    ≡ position_or_len (bytes_eq l.name) (declared l.windows)
