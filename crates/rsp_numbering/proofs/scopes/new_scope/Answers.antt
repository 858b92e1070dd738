use Rattle.std.proofs.Common.{◌≡◌, ℕ, List, rules}
use Rattle.std.specs.List.{list_any}
use Rattle.std.specs.Str.{bytes_eq}
use Rattle.rsp_written.specs.GroupMeanings.{projection_of}
use Rattle.rsp_numbering.specs.Naming.{is_shown}
use Rattle.rsp_numbering.specs.Selections.{is_star, items_in}
use Rattle.rsp_numbering.proofs.Sharing.{shares_is}
use Rattle.rsp_numbering.proofs.scopes.new_scope.Goals as goal

pub returns : goal.returns
returns c =
    let projection = projection_of c.args.projection.now in
    let every : c.is_every-every.result ≡ is_star projection = search rules in
    let shown : (x : List ℕ) → list_any (bytes_eq x) c.in_ok-shown.shown.value.keys ≡ is_shown (items_in projection) x = λ x. search rules in
    shares_is c.args.number projection c.is_every-every.result c.in_ok-shown.shown.value.keys every shown
