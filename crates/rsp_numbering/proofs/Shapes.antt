-- A window within the limits has a shape.
use Rattle.std.specs.Prelude.{◌≡◌, refl, ℕ, ◌≤◌, ◌==◌, Bool, true, false, ◌&&◌, nat_le, nat_lt, if◌then◌else◌, List, [], ◌∷◌, Option, Some, None, unwrap_or, IfSome}
use Rattle.std.proofs.Common.{arith}
use Rattle.std.proofs.lemmas.Bool.Decides.{nat_tests}
use Rattle.rsp_spec.specs.Limits.{last_instant}
use Rattle.rsp_spec.specs.Windows.{IsShape}
use Rattle.rsp_spec.proofs.Truths.{and_left, and_right}
use Rattle.rsp_text.specs.Spans.{span}
use Rattle.rsp_text.proofs.SpanLaws.{span_within}
use Rattle.rsp_report.specs.declared.words.PolicyWords.{PolicyWords}
use Rattle.rsp_report.specs.declared.words.PolicyWords.TheVariants as policy
use Rattle.rsp_written.specs.Trees as written
use Rattle.rsp_numbering.specs.Clauses.{milliseconds, slide_of, shape_of}
use Rattle.rsp_numbering.specs.Limits.{is_span, is_span_or_none, is_within}

below : (n : ℕ) → nat_le n last_instant ≡ true → n ≤ last_instant
below n h = grind (arith, nat_tests)

high : (o : Option ℕ) → IfSome o (λ ms. ms ≤ last_instant) → unwrap_or o 0 ≤ last_instant
high None within = omega arith
high (Some n) within = within

span_high : (text : List ℕ) → milliseconds text ≤ last_instant
span_high text = high (span text) (span_within text)

span_low : (text : List ℕ) → is_span text ≡ true → 1 ≤ milliseconds text
span_low text h = low (milliseconds text) h
  where
    low : (n : ℕ) → nat_lt 0 n ≡ true → 1 ≤ n
    low n is = grind (arith, nat_tests)

slide_range : (words : PolicyWords) (width : ℕ) (slide : Option (List ℕ)) → 1 ≤ width → width ≤ last_instant
    → is_span_or_none slide ≡ true → (1 ≤ slide_of words width slide) × (slide_of words width slide ≤ last_instant)
slide_range words width (Some text) low high is = (span_low text is, span_high text)
slide_range policy.Cqels width None low high is = (omega arith, omega arith)
slide_range policy.Absent width None low high is = (low, high)
slide_range policy.Csparql width None low high is = (low, high)
slide_range (policy.Listed strategies tuple) width None low high is = (low, high)

pub shape : (words : PolicyWords) (w : written.Window) → is_within w ≡ true → IsShape (shape_of words w)
shape words w h =
    let range = and_left (is_span w.range) _ h in
    let others = and_right (is_span w.range) _ h in
    let slide =
    slide_range words (milliseconds w.range) w.slide (span_low w.range range) (span_high w.range) (and_left (is_span_or_none w.slide) _ others) in
    record {
      width_low = span_low w.range range;
      width_high = span_high w.range;
      slide_low = slide.0;
      slide_high = slide.1;
      origin_high = below (unwrap_or w.origin 0) (and_right (is_span_or_none w.slide) _ others);
    }
