use Rattle.std.proofs.Common.{IsUtf8, rules, sym}
use Rattle.std.proofs.lemmas.Str.{is_utf8-from_IsUtf8}
use Rattle.rsp_scan.proofs.Spelling.{not_utf8}
use Rattle.rsp_nquads.proofs.statements.is_utf8.Goals as goal

pub returns-in-Ok : goal.returns-in-Ok
returns-in-Ok c = let whole : IsUtf8 c.args.text.now = search rules in sym (is_utf8-from_IsUtf8 _ whole)

pub returns-in-Err : goal.returns-in-Err
returns-in-Err c = sym (not_utf8 _ c.in-Err.ensures.cases.0)
