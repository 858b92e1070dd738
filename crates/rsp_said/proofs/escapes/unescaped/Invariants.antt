use Rattle.std.proofs.Common.{◌≡◌, ◌++◌, IsUtf8}
use Rattle.std.specs.Str.Iter.{chars_rest}
use Rattle.std.specs.String.{string_bytes}
use Rattle.rsp_said.specs.Escapes.{unescaped_text}
use Rattle.rsp_said.proofs.escapes.unescaped.Given as goal

abbrev pub invariant-loop-c : goal.invariant-loop-c
invariant-loop-c l = record {
  whole : IsUtf8 (chars_rest l.c-iterator);
  same : string_bytes l.plain ++ unescaped_text l.state (chars_rest l.c-iterator) ≡ unescaped_text l.fn.from l.fn.text;
}
