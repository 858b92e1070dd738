use Rattle.std.proofs.Common.{◌≡◌, true, nat_le, bytes_eq, le-leb, arith}
use Rattle.rsp_scope.specs.Inside.{followed_of}
use Rattle.rsp_scope.proofs.Needs.{ends_of_seen}
use Rattle.rsp_scope.proofs.contents.Contents.end_of.Goals as goal

pub returns : goal.returns
returns c =
    let first : nat_le c.self.inside.first c.args.number ≡ true = le-leb c.self.inside.first c.args.number c.if-number-self.false in
    let stream : bytes_eq c.args.stream.now c.self.inside.stream ≡ true = grind (arith, c.if-ne.false, c.if-ne.ensures, c.ne.ensures) in
    rw (← c.self.view_is)
    (λ graph. ends_of_seen (followed_of c.self.inside).watch
    (record { number = c.args.number; item = record { stream = c.args.stream.now; time = c.args.time; graph = graph } })
    c.last_needed.result c.last_needed.ensures.shape.slide_low first stream c.last_needed.ensures.needed)
