-- The query that a text is asks no period of 0 ms: no such span is within the limits, and in the grammar each EVERY has a span.
use Rattle.std.proofs.Common.{◌≡◌, ℕ, ◌<◌, nat_lt, Bool, true, false, true≢false, cond, List, [], ◌∷◌, Option, None, Some, is_some, map, length, Result, Ok, Err, refl, sym, ap, subst, arith}
use Rattle.std.specs.Bool.{⊤}
use Rattle.std.specs.List.{AllByRecursion, list_all}
use Rattle.std.specs.Option.{ForSome}
use Rattle.std.specs.Result.{IfOk}
use Rattle.std.proofs.lemmas.Bool.Decides.{nat_tests}
use Rattle.rsp_phrases.proofs.Good.{same_some}
use Rattle.rsp_phrases.proofs.Membership.{and_left, and_right}
use Rattle.rsp_phrases.specs.Languages.{has, optional}
use Rattle.rsp_report.specs.declared.words.Strategy as report
use Rattle.rsp_report.specs.declared.words.Strategy.TheVariants as strategy
use Rattle.rsp_report.specs.Named.{asked_by, first_period}
use Rattle.rsp_report.specs.declared.chosen.Chosen.{Chosen}
use Rattle.rsp_report.proofs.PolicyLaws.{choice_is}
use Rattle.rsp_written.specs.declared.said.Keyword.TheVariants as keyword
use Rattle.rsp_written.specs.declared.said.Kind.{Kind}
use Rattle.rsp_written.specs.declared.said.Kind.TheVariants as kind
use Rattle.rsp_written.specs.Numbers.{number_of}
use Rattle.rsp_written.specs.Trees as written
use Rattle.rsp_written.specs.Trees.{Written}
use Rattle.rsp_written.specs.Building.{policy_or_none}
use Rattle.rsp_written.specs.Grammar as grammar
use Rattle.rsp_query.specs.declared.query.Query.{Query}
use Rattle.rsp_query.specs.Queries.{Registered}
use Rattle.rsp_query.specs.Meanings.{registered}
use Rattle.rsp_numbering.specs.Clauses.{milliseconds, policy_of, strategy_by, strategy_of}
use Rattle.rsp_numbering.specs.Limits.{has_periods, has_spans, is_periodic, is_span, is_within, limit_of}
use Rattle.rsp_numbering.specs.declared.limit.LimitName.TheVariants as limit
use Rattle.rsp_syntax.specs.Answers.{IsParsed}
use Rattle.rsp_syntax.specs.Deciding.{parse}
use Rattle.rsp_syntax.specs.Periods.{HasPeriods}
use Rattle.rsp_syntax.specs.Texts.{all_said}
use Rattle.rsp_syntax.specs.declared.fault.SyntaxFault.{SyntaxFault}
use Rattle.rsp_syntax.proofs.Tied.{tied}
use Rattle.rsp_syntax.proofs.Values.{Gives, gives_among, gives_any, gives_both, gives_either, gives_first, gives_first_of, gives_many, gives_mapped, gives_optional, gives_second, gives_second_of, gives_seen}

-- ---- strategies

-- its period, where it has one, is 1 ms or more
abbrev IsLasting : report.Strategy → Type 0
IsLasting (strategy.Every period) = 0 < period
IsLasting _ = ⊤

-- it is such a one where its span is within the limits
abbrev Lasts : written.Strategy → Type 0
Lasts s = is_periodic s ≡ true → IsLasting (strategy_of s)

-- the words that stand without a span aren't EVERY
plain_lasts : (k : Kind) (period : ℕ) → has (grammar.numbers grammar.plain_strategies) (number_of k) ≡ true
    → IsLasting (strategy_by k period)
plain_lasts (kind.Word keyword.Every) period is = absurd (true≢false (sym is))
plain_lasts k period is = tt

span_lasts : (text : List ℕ) → is_span text ≡ true → 0 < milliseconds text
span_lasts text h = grind (arith, nat_tests, h)

strategy_lasts : Gives Lasts grammar.strategy
strategy_lasts =
    gives_either
    (gives_mapped (gives_among grammar.kind_number (grammar.numbers grammar.plain_strategies))
    (λ said is h. plain_lasts said.kind 0 is))
    (gives_mapped (gives_second_of (gives_any span_lasts)) (λ text lasts. lasts))

-- ---- policies

-- its first period is 1 ms or more, where its spans are within the limits
abbrev PolicyLasts : written.Policy → Type 0
PolicyLasts p = has_periods p ≡ true → ForSome (asked_by (policy_of p)).period (λ period. 0 < period)

no_period : {period : ℕ} → None ≡ Some period → 0 < period
no_period is = absurd (true≢false (sym (ap is_some is)))

or_later : {period : ℕ} (s : report.Strategy) (more : List report.Strategy) → IsLasting s
    → (first_period more ≡ Some period → 0 < period) → first_period (s ∷ more) ≡ Some period → 0 < period
or_later (strategy.Every p) more lasts later is = subst (λ n. 0 < n) (same_some is) lasts
or_later strategy.Close more lasts later is = later is
or_later strategy.Change more lasts later is = later is
or_later strategy.NonEmpty more lasts later is = later is

first_lasts : (strategies : List written.Strategy) → AllByRecursion Lasts strategies → list_all is_periodic strategies ≡ true
    → (period : ℕ) → first_period (map strategy_of strategies) ≡ Some period → 0 < period
first_lasts [] all h period is = no_period is
first_lasts (s ∷ more) all h period is =
    or_later (strategy_of s) (map strategy_of more) (all.0 (and_left (is_periodic s) (list_all is_periodic more) h))
    (first_lasts more all.1 (and_right (is_periodic s) (list_all is_periodic more) h) period) is

profile_lasts : (k : Kind) → PolicyLasts (written.profile k)
profile_lasts (kind.Word keyword.Cqels) h period is = no_period is
profile_lasts k h period is = no_period is

none_lasts : PolicyLasts written.no_policy
none_lasts h period is = no_period is

reported_lasts : Gives PolicyLasts grammar.reported
reported_lasts =
    gives_mapped
    (gives_second_of
    (gives_first (gives_both strategy_lasts (gives_many (gives_second_of strategy_lasts)))
    (λ v all. first_lasts (v.0.0 ∷ v.0.1) all)))
    (λ v lasts. lasts)

policy_lasts : Gives PolicyLasts grammar.policy
policy_lasts = gives_either (gives_mapped (gives_any (λ said. profile_lasts said.kind)) (λ said lasts. lasts)) reported_lasts

-- ---- queries

maybe_lasts : Gives (λ p. PolicyLasts (policy_or_none p)) (optional grammar.policy)
maybe_lasts = gives_optional policy_lasts (λ p lasts. lasts) none_lasts

registered_lasts : Gives (λ v. PolicyLasts (policy_or_none v.1.1)) grammar.registered
registered_lasts =
    gives_second_of
    (gives_second (λ operator. gives_second (λ name. gives_first_of maybe_lasts) (λ v lasts. lasts)) (λ v lasts. lasts))

body_lasts : Gives (λ w. PolicyLasts w.policy) grammar.query_body
body_lasts = gives_mapped (gives_first registered_lasts (λ v lasts. lasts)) (λ v lasts. lasts)

query_lasts : Gives (λ w. PolicyLasts w.policy) grammar.query
query_lasts = gives_mapped (gives_second (λ prefixes. gives_seen body_lasts) (λ v lasts. lasts)) (λ v lasts. lasts)

-- ---- texts

-- no limit is passed, so no span is refused
spans_within : {X : Type 0} (many spans : Bool) (windows span : X) (later : Option X)
    → cond many (Some windows) (cond spans later (Some span)) ≡ None → spans ≡ true
spans_within true spans windows span later is = absurd (true≢false (ap is_some is))
spans_within false true windows span later is = refl
spans_within false false windows span later is = absurd (true≢false (ap is_some is))

periods_within : (w : Written) → limit_of w ≡ None → has_periods w.policy ≡ true
periods_within w is =
    and_left (has_periods w.policy) (list_all is_within w.windows)
    (spans_within (nat_lt 16 (length w.windows)) (has_spans w) limit.Windows limit.Span _ is)

parse_periods : (text : List ℕ) (query : Registered) → parse text ≡ Ok query → HasPeriods query.policy
parse_periods text query is =
    let said = (tied text (Ok query)).0 is in
    subst (λ q. HasPeriods q.policy) said.is
    (subst (λ (c : Chosen). ForSome c.period (λ period. 0 < period)) (sym (choice_is (policy_of said.written.policy)))
    (query_lasts.each (all_said text said.ts) said.written said.spelled (periods_within said.written said.within)))

pub answer_periods : (text : List ℕ) (answer : Result Query SyntaxFault) → IsParsed answer (parse text)
    → IfOk answer (λ query. HasPeriods (registered query).policy)
answer_periods text (Ok query) is = parse_periods text (registered query) is
answer_periods text (Err fault) is = tt
