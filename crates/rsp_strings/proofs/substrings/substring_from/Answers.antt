use Rattle.std.proofs.Common.{◌∙◌, sym, ap, chars, drop}
use Rattle.std.specs.Str.{encode_utf8_all}
use Rattle.rsp_strings.proofs.Places.{from_place}
use Rattle.rsp_strings.proofs.substrings.substring_from.Goals as goal

pub returns : goal.returns
returns c =
    c.behind.ensures
    ∙ ap (λ n. encode_utf8_all (drop n (chars c.args.text.now))) c.places_before.ensures
    ∙ sym (ap encode_utf8_all (from_place c.args.start (chars c.args.text.now)))
