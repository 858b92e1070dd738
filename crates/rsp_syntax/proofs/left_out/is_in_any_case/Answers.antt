use Rattle.std.specs.Str.{str_to_ascii_lowercase}
use Rattle.std.proofs.lemmas.Bool.Decides.{same_from_decides}
use Rattle.std.proofs.lemmas.Slice.Eq.{bytes_eq-Decides}
use Rattle.rsp_syntax.proofs.left_out.is_in_any_case.Goals as goal

pub returns : goal.returns
returns c =
    same_from_decides _ _ c.eq_ignore_ascii_case.ensures.test
    (bytes_eq-Decides (str_to_ascii_lowercase c.args.name.now) (str_to_ascii_lowercase c.args.text.now))
