-- Definitions: what stands before the group of a query: stream operator, policy and windows (RSP-QL), and the whole query.
use Rattle.std.specs.Prelude.{ℕ, Bool, true, false, List, [], Option, None, Some, map, unwrap_or}
use Rattle.rsp_spec.specs.Windows.{Shape}
use Rattle.rsp_text.specs.Spans.{span}
use Rattle.rsp_report.specs.declared.words.Strategy as report
use Rattle.rsp_report.specs.declared.words.Strategy.TheVariants as strategy
use Rattle.rsp_report.specs.declared.words.PolicyWords.{PolicyWords}
use Rattle.rsp_report.specs.declared.words.PolicyWords.TheVariants as policy
use Rattle.rsp_report.specs.declared.operator.Operator.{Operator}
use Rattle.rsp_report.specs.declared.operator.Operator.TheVariants as operator
use Rattle.rsp_query.specs.declared.query.WindowClause.{WindowClause}
use Rattle.rsp_query.specs.Groups.{Selection}
use Rattle.rsp_query.specs.Queries.{Registered}
use Rattle.rsp_written.specs.declared.said.Keyword.TheVariants as keyword
use Rattle.rsp_written.specs.declared.said.Kind.TheVariants as kind
use Rattle.rsp_written.specs.declared.said.Kind as token
use Rattle.rsp_written.specs.Trees as written
use Rattle.rsp_numbering.specs.Naming.{variable_text}
use Rattle.rsp_numbering.specs.Numbered.{State, start}
use Rattle.rsp_numbering.specs.Selections.{select}

-- the milliseconds of a span's text; 0 where there are too many
abbrev pub milliseconds : List ℕ → ℕ
milliseconds text = unwrap_or (span text) 0

abbrev pub period_of : Option (List ℕ) → ℕ
period_of None = 0
period_of (Some text) = milliseconds text

abbrev pub strategy_by : token.Kind → ℕ → report.Strategy
strategy_by (kind.Word keyword.Change) period = strategy.Change
strategy_by (kind.Word keyword.NonEmpty) period = strategy.NonEmpty
strategy_by (kind.Word keyword.Every) period = strategy.Every period
strategy_by _ period = strategy.Close

abbrev pub strategy_of : written.Strategy → report.Strategy
strategy_of s = strategy_by s.kind (period_of s.period)

abbrev pub is_tuple : token.Kind → Bool
is_tuple (kind.Word keyword.Tuple) = true
is_tuple _ = false

abbrev pub profile_of : token.Kind → PolicyWords
profile_of (kind.Word keyword.Cqels) = policy.Cqels
profile_of _ = policy.Csparql

abbrev pub policy_of : written.Policy → PolicyWords
policy_of written.no_policy = policy.Absent
policy_of (written.profile name) = profile_of name
policy_of (written.reporting strategies tick) = policy.Listed (map strategy_of strategies) (is_tuple tick)

abbrev pub operator_of : token.Kind → Operator
operator_of (kind.Word keyword.Istream) = operator.Istream
operator_of (kind.Word keyword.Dstream) = operator.Dstream
operator_of _ = operator.Rstream

-- without STEP one window follows another at its width, and under CQELS at each millisecond
abbrev pub default_slide : PolicyWords → ℕ → ℕ
default_slide policy.Cqels width = 1
default_slide _ width = width

abbrev pub slide_of : PolicyWords → ℕ → Option (List ℕ) → ℕ
slide_of words width None = default_slide words width
slide_of words width (Some text) = milliseconds text

abbrev pub shape_of : PolicyWords → written.Window → Shape
shape_of words w = record {
  width = milliseconds w.range;
  slide = slide_of words (milliseconds w.range) w.slide;
  origin = unwrap_or w.origin 0;
}

abbrev pub clause_of : PolicyWords → written.Window → WindowClause
clause_of words w = record { name = w.name; stream = w.stream; window = shape_of words w; at = w.at }

-- the SELECT of the text, and what stands behind it
abbrev pub made_of : written.Written → Selection × State
made_of w = select [] w.select start

-- the query that the text is, where it is within limits
abbrev pub query_of : written.Written → Registered
query_of w = record {
  operator = operator_of w.operator;
  output = w.output;
  policy = policy_of w.policy;
  windows = map (clause_of (policy_of w.policy)) w.windows;
  selection = (made_of w).0;
  variables = map variable_text (made_of w).1.before.variables;
}
