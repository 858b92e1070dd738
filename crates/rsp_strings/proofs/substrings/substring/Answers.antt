use Rattle.std.proofs.Common.{◌∙◌, sym, ap, chars}
use Rattle.std.specs.Str.{encode_utf8_all}
use Rattle.rsp_strings.specs.Substrings.{items_at, is_from, substring_from}
use Rattle.rsp_strings.proofs.Fronts.{chars_front, front_bytes}
use Rattle.rsp_strings.proofs.Places.{among_places}
use Rattle.rsp_strings.proofs.substrings.substring.Goals as goal

pub returns : goal.returns
returns c =
    c.substring_from.ensures
    ∙ ap (λ text. substring_from text c.args.start) c.front-front.ensures
    ∙ ap (λ n. substring_from (front_bytes n c.args.text.now) c.args.start) c.places_before_end.ensures
    ∙ ap (λ cs. encode_utf8_all (items_at (is_from c.args.start) 1 cs)) (chars_front _ c.args.text.now c.utf8.text)
    ∙ sym (ap encode_utf8_all (among_places c.args.start c.args.count (chars c.args.text.now)))
