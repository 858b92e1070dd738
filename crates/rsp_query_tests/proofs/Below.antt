-- Variables below a width.
use Rattle.std.proofs.Common.{ℕ, List, ◌<◌, ◌++◌}
use Rattle.rsp_algebra.specs.Fitting.{AreBelow}
use Rattle.rsp_algebra.proofs.Widths.{all-append}

pub below_append : (width : ℕ) (xs ys : List ℕ) → AreBelow width xs → AreBelow width ys → AreBelow width (xs ++ ys)
below_append width xs ys left right = all-append (λ v. v < width) xs ys left right
