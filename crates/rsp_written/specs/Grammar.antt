-- Definitions: the grammar of queries. Each rule has its line of the grammar, the production of SPARQL 1.1 Query
-- (section 19.8) that it follows, and how this profile differs. A rule stands behind the rules that it names; read from
-- the end the order is that of the grammar. Tokens are what they say: words in any case, IRIs absolute with prefixes
-- replaced, strings without escapes. What is left out of SPARQL: paths `*` `+` `?` `!`, collections, SERVICE, queries of
-- other forms, solution modifiers but grouping, and functions named by IRIs.
use Rattle.rsp_functions.specs.declared.function.Sign.TheVariants as operator
use Rattle.rsp_functions.specs.Functions.{functions}
use Rattle.rsp_functions.specs.declared.aggregate.Kind.TheVariants as fold
use Rattle.std.specs.Prelude.{Bool, ℕ, zero, suc, List, [], ◌∷◌, ◌++◌, cond, map, length, Option, None, Some, is_some, codes}
use Rattle.std.specs.Prelude.{nat_le}
use Rattle.std.specs.List.{flat_map}
use Rattle.std.specs.Str.{bytes_eq}
use Rattle.std.specs.Str.Parse.{digits_value}
use Rattle.rsp_spec.specs.Limits.{last_instant}
use Rattle.rsp_text.specs.Instants.{instant}
use Rattle.rsp_terms.specs.declared.term.Term.TheVariants as term
use Rattle.rsp_terms.specs.declared.term.Term.{Term}
use Rattle.rsp_phrases.specs.Languages.{Language, has, among, token, mapped, tied, both, second_of, first_of_both, either}
use Rattle.rsp_phrases.specs.Languages.{optional, many, dotted, distinct, within_itself, seen, listed, never}
use Rattle.rsp_written.specs.declared.said.Keyword.{Keyword}
use Rattle.rsp_written.specs.declared.said.Keyword.TheVariants as keyword
use Rattle.rsp_written.specs.declared.said.Symbol.{Symbol}
use Rattle.rsp_written.specs.declared.said.Symbol.TheVariants as symbol
use Rattle.rsp_written.specs.declared.said.Kind.{Kind}
use Rattle.rsp_written.specs.declared.said.Kind.TheVariants as kind
use Rattle.rsp_written.specs.declared.said.Said.{Said}
use Rattle.rsp_functions.specs.declared.function.Arity.{Arity}
use Rattle.rsp_functions.specs.declared.function.Arity.TheVariants as arity
use Rattle.rsp_written.specs.Numbers.{number_of}
use Rattle.rsp_written.specs.Arities.{arity_of}
use Rattle.rsp_written.specs.Trees.{Expr, variable, iri, constant, bound, count_rows, Way, step, Verb, named, along, Node}
use Rattle.rsp_written.specs.Trees.{variable_node, iri_node, constant_node, label_node, blank_node, described, Properties, Item}
use Rattle.rsp_written.specs.Trees.{shown, computed, Projection, every_name, these, Graph, graph_variable, graph_iri, Element}
use Rattle.rsp_written.specs.Trees.{optional_group, minus_group, union_of, graph_group, window_group, filter, exists, bind}
use Rattle.rsp_written.specs.Trees.{values, Strategy, Policy, profile, reporting, Window, Written}
use Rattle.rsp_written.specs.Building.{string_term, number_term, signed_term, boolean_term, signed_part, any_row, all_row}
use Rattle.rsp_written.specs.Building.{sum_row, product_row, Relation, compared_to, one_of, related, with_sign, call_of}
use Rattle.rsp_written.specs.Building.{aggregate_of, flagged, sequence_row, choice_row, turned, rdf_type, property_list}
use Rattle.rsp_written.specs.Building.{some_properties, elements_in, groups_in, run, sub_select_of, written_of, later, is_nil}
use Rattle.rsp_written.specs.declared.literals.Suffix.{Suffix}
use Rattle.rsp_written.specs.declared.literals.Suffix.TheVariants.{InLanguage, OfDatatype}

abbrev pub Rule : Type 0 → Type 1
Rule A = Language Said A

abbrev pub kind_number : Said → ℕ
kind_number said = number_of said.kind

abbrev pub numbers : List Kind → List ℕ
numbers kinds = map number_of kinds

-- a token of one of these kinds
abbrev pub one : List Kind → Rule Said
one kinds = among kind_number (numbers kinds)

abbrev pub word : Keyword → Rule Said
word w = one (kind.Word w ∷ [])

abbrev pub sign : Symbol → Rule Said
sign s = one (kind.Symbol s ∷ [])

abbrev pub text_of : Said → List ℕ
text_of said = said.text

abbrev pub in_parens : {A : Type 0} → Rule A → Rule A
in_parens p = second_of (sign symbol.OpenParen) (first_of_both p (sign symbol.CloseParen))

-- Iri ::= Iri-token | Prefixed                                                                                [136] iri
-- (a prefixed name whose prefix is declared says the whole IRI)
abbrev pub iri_name : Rule (List ℕ)
iri_name = mapped text_of (one (kind.Iri ∷ []))

-- a Variable, of which the name counts                                                                         [108] Var
abbrev pub variable_name : Rule (List ℕ)
variable_name = mapped text_of (one (kind.Variable ∷ []))

-- Literal ::= String (Tag | '^^' Iri)? | '-'? (Integer | Decimal | Double) | 'TRUE' | 'FALSE'
--                                                    [129] RDFLiteral, [130] NumericLiteral, [134] BooleanLiteral
-- (without '+'; white space may stand behind '-')
abbrev pub suffix : Rule Suffix
suffix =
    either (mapped (λ tag. InLanguage tag.text) (one (kind.Tag ∷ [])))
    (second_of (sign symbol.Carets) (mapped OfDatatype iri_name))

abbrev pub string_literal : Rule Term
string_literal = mapped string_term (both (one (kind.String ∷ [])) (optional suffix))

abbrev pub number_kinds : List Kind
number_kinds = kind.Integer ∷ kind.Decimal ∷ kind.Double ∷ []

abbrev pub unsigned_number : Rule Term
unsigned_number = mapped number_term (one number_kinds)

abbrev pub signed_number : Rule Term
signed_number = mapped signed_term (both (optional (sign (symbol.Sign operator.Subtract))) (one number_kinds))

abbrev pub boolean : Rule Term
boolean =
    either (mapped (λ w. boolean_term (codes "true")) (word keyword.True))
    (mapped (λ w. boolean_term (codes "false")) (word keyword.False))

abbrev pub literal : Rule Term
literal = either string_literal (either signed_number boolean)

abbrev pub unsigned_literal : Rule Term
unsigned_literal = either string_literal (either unsigned_number boolean)

-- ---- expressions. `extra`: what else may be a Primary. `inner`: the expression within brackets.

-- '(' (Expr (',' Expr)*)? ')'                                                                      [72] ExpressionList
abbrev pub expressions : Rule Expr → Rule (List Expr)
expressions inner =
    second_of (sign symbol.OpenParen)
    (mapped (λ (v : _ × _). listed v.0)
    (both (optional (both inner (many (second_of (sign symbol.Comma) inner)))) (sign symbol.CloseParen)))

-- Call ::= a name, '(' arguments separated by ',' ')'                                                [121] BuiltInCall
-- (each name with its numbers of arguments; BOUND has a variable)
abbrev pub another : Rule Expr → Rule Expr
another inner = second_of (sign symbol.Comma) inner

abbrev pub maybe_third : Expr × (Expr × Option Expr) → List Expr
maybe_third (a, (b, None)) = a ∷ b ∷ []
maybe_third (a, (b, Some c)) = a ∷ b ∷ c ∷ []

abbrev pub arguments : Arity → Rule Expr → Rule (List Expr)
arguments arity.One inner = mapped (λ e. e ∷ []) (in_parens inner)
arguments arity.Two inner = mapped (λ (v : Expr × Expr). v.0 ∷ v.1 ∷ []) (in_parens (both inner (another inner)))
arguments arity.Three inner =
    mapped (λ (v : Expr × (Expr × Expr)). v.0 ∷ v.1.0 ∷ v.1.1 ∷ [])
    (in_parens (both inner (both (another inner) (another inner))))
arguments arity.TwoOrThree inner = mapped maybe_third (in_parens (both inner (both (another inner) (optional (another inner)))))
arguments arity.Any inner = expressions inner

abbrev pub call_names : List Kind
call_names = map (λ f. kind.Word (keyword.Call f)) functions

abbrev pub bound_call : Rule Expr
bound_call = mapped bound (second_of (word keyword.Bound) (in_parens variable_name))

abbrev pub function_call : Rule Expr → Rule Expr
function_call inner = mapped call_of (tied (one call_names) (λ name. arguments (arity_of name.kind) inner))

abbrev pub call_rule : Rule Expr → Rule Expr
call_rule inner = either bound_call (function_call inner)

-- Primary ::= '(' Expr ')' | Call | Iri | Variable | unsigned Literal                          [119] PrimaryExpression
abbrev pub primary : Rule Expr → Rule Expr → Rule Expr
primary extra inner =
    either extra (either (in_parens inner) (either (call_rule inner)
    (either (mapped iri iri_name) (either (mapped variable variable_name) (mapped constant unsigned_literal)))))

-- Unary ::= ('!' | '-' | '+')? Primary                                                           [118] UnaryExpression
abbrev pub unary_signs : List Kind
unary_signs = map kind.Symbol (symbol.Not ∷ map symbol.Sign (operator.Subtract ∷ operator.Add ∷ []))

abbrev pub unary : Rule Expr → Rule Expr → Rule Expr
unary extra inner = mapped with_sign (both (optional (one unary_signs)) (primary extra inner))

-- parts with signs between
abbrev pub row : List Kind → (Expr × List (Kind × Expr) → Expr) → Rule Expr → Rule Expr
row signs make part = mapped make (both part (many (mapped signed_part (both (one signs) part))))

-- Product ::= Unary (('*' | '/') Unary)*                                                [117] MultiplicativeExpression
abbrev pub product_signs : List Kind
product_signs = map kind.Symbol (map symbol.Sign (operator.Multiply ∷ operator.Divide ∷ []))

abbrev pub product_rule : Rule Expr → Rule Expr → Rule Expr
product_rule extra inner = row product_signs product_row (unary extra inner)

-- Sum ::= Product (('+' | '-') Product)*                                                      [116] AdditiveExpression
abbrev pub sum_signs : List Kind
sum_signs = map kind.Symbol (map symbol.Sign (operator.Add ∷ operator.Subtract ∷ []))

abbrev pub sum_rule : Rule Expr → Rule Expr → Rule Expr
sum_rule extra inner = row sum_signs sum_row (product_rule extra inner)

-- Rel ::= Sum (('=' | '!=' | '<' | '>' | '<=' | '>=') Sum | 'NOT'? 'IN' '(' (Expr (',' Expr)*)? ')')?
--                                                                                           [114] RelationalExpression
abbrev pub comparisons : List Kind
comparisons = map kind.Symbol (map symbol.Sign
    (operator.Equal ∷ operator.NotEqual ∷ operator.Less ∷ operator.Greater ∷ operator.LessEqual ∷ operator.GreaterEqual ∷ []))

abbrev pub comparison : Rule Expr → Rule Expr → Rule Relation
comparison extra inner = mapped (λ (v : Said × Expr). compared_to v.0.kind v.1) (both (one comparisons) (sum_rule extra inner))

abbrev pub membership : Rule Expr → Rule Relation
membership inner =
    mapped (λ (v : Option Said × List Expr). one_of (is_some v.0) v.1)
    (both (optional (word keyword.Not)) (second_of (word keyword.In) (expressions inner)))

abbrev pub relation : Rule Expr → Rule Expr → Rule Expr
relation extra inner =
    mapped related (both (sum_rule extra inner) (optional (either (comparison extra inner) (membership inner))))

-- And ::= Rel ('&&' Rel)*                                                             [112] ConditionalAndExpression
abbrev pub and_signs : List Kind
and_signs = kind.Symbol symbol.And ∷ []

abbrev pub and_rule : Rule Expr → Rule Expr → Rule Expr
and_rule extra inner = row and_signs all_row (relation extra inner)

-- Expr ::= And ('||' And)*                                                              [111] ConditionalOrExpression
abbrev pub or_signs : List Kind
or_signs = kind.Symbol symbol.Or ∷ []

abbrev pub or_rule : Rule Expr → Rule Expr → Rule Expr
or_rule extra inner = row or_signs any_row (and_rule extra inner)

abbrev pub expression : Rule Expr
expression = within_itself (or_rule never)

-- Aggregate ::= 'COUNT' '(' ('*' | 'DISTINCT'? Expr) ')' | ('SUM' | 'AVG' | 'MIN' | 'MAX') '(' 'DISTINCT'? Expr ')'
--                                                    [127] Aggregate (without COUNT(DISTINCT *), GROUP_CONCAT, SAMPLE)
abbrev pub maybe_distinct : Rule (Bool × Expr)
maybe_distinct = mapped flagged (both (optional (word keyword.Distinct)) expression)

abbrev pub count_rule : Rule Expr
count_rule =
    second_of (word (keyword.Fold fold.Count)) (in_parens
    (either (mapped (λ star. count_rows) (sign (symbol.Sign operator.Multiply)))
    (mapped (aggregate_of (kind.Word (keyword.Fold fold.Count))) maybe_distinct)))

abbrev pub folds : List Kind
folds = map kind.Word (map keyword.Fold (fold.Sum ∷ fold.Avg ∷ fold.Min ∷ fold.Max ∷ []))

abbrev pub aggregate_rule : Rule Expr
aggregate_rule =
    either count_rule
    (mapped (λ (v : Said × (Bool × Expr)). aggregate_of v.0.kind v.1) (both (one folds) (in_parens maybe_distinct)))

-- AggExpr ::= Expr in which Primary may also be an Aggregate
abbrev pub aggregate_expression : Rule Expr
aggregate_expression = within_itself (or_rule aggregate_rule)

-- ---- paths. `inner`: the path within brackets.

-- Part ::= '^'? (Iri | 'a' | '(' Path ')')                                 [92] PathEltOrInverse, [94] PathPrimary
abbrev pub way_name : Rule Way
way_name = either (mapped step iri_name) (mapped (λ w. step rdf_type) (word keyword.A))

abbrev pub path_part : Rule Way → Rule Way
path_part inner = mapped turned (both (optional (sign symbol.Caret)) (either way_name (in_parens inner)))

-- Sequence ::= Part ('/' Part)*                                                                    [90] PathSequence
abbrev pub path_sequence : Rule Way → Rule Way
path_sequence inner =
    mapped sequence_row (both (path_part inner) (many (second_of (sign (symbol.Sign operator.Divide)) (path_part inner))))

-- Path ::= Sequence ('|' Sequence)*                                                             [89] PathAlternative
abbrev pub path_rule : Rule Way → Rule Way
path_rule inner = mapped choice_row (both (path_sequence inner) (many (second_of (sign symbol.Bar) (path_sequence inner))))

abbrev pub path : Rule Way
path = within_itself path_rule

-- Verb ::= Variable | Path                                                         [84] VerbPath, [85] VerbSimple
abbrev pub verb : Rule Verb
verb = either (mapped named variable_name) (mapped along path)

-- ---- triples. `inner`: the properties within brackets.

-- Node ::= Variable | Iri | Literal | Label | '[' ']'                                   [106] VarOrTerm, [138] BlankNode
abbrev pub subject_name : Rule Node
subject_name =
    either (mapped variable_node variable_name)
    (either (mapped iri_node iri_name) (mapped (λ said. label_node said.text) (one (kind.Label ∷ []))))

abbrev pub node_name : Rule Node
node_name = either subject_name (mapped constant_node literal)

abbrev pub no_properties : Rule Node
no_properties = mapped (λ close. blank_node) (sign symbol.CloseBracket)

abbrev pub blank : Rule Node
blank = second_of (sign symbol.OpenBracket) no_properties

abbrev pub node : Rule Node
node = either node_name blank

-- no literal can stand as a subject
abbrev pub subject : Rule Node
subject = either subject_name blank

-- '[' Properties ']'                                                                    [99] BlankNodePropertyList
abbrev pub properties_end : Rule Properties → Rule Node
properties_end inner = mapped described (first_of_both inner (sign symbol.CloseBracket))

abbrev pub bracketed : Rule Properties → Rule Node
bracketed inner = second_of (sign symbol.OpenBracket) (properties_end inner)

-- Objects ::= (Node | '[' Properties ']') (',' (Node | '[' Properties ']'))*                       [86] ObjectListPath
abbrev pub object : Rule Properties → Rule Node
object inner = either node (bracketed inner)

abbrev pub objects : Rule Properties → Rule (List Node)
objects inner =
    mapped (λ (v : Node × List Node). v.0 ∷ v.1) (both (object inner) (many (second_of (sign symbol.Comma) (object inner))))

-- Properties ::= Verb Objects (';' (Verb Objects)?)*                                    [83] PropertyListPathNotEmpty
abbrev pub property : Rule Properties → Rule (Verb × List Node)
property inner = both verb (objects inner)

abbrev pub properties_rule : Rule Properties → Rule Properties
properties_rule inner =
    mapped property_list (both (property inner) (many (second_of (sign symbol.Semicolon) (optional (property inner)))))

abbrev pub properties : Rule Properties
properties = within_itself properties_rule

-- Same ::= Node Properties | '[' Properties ']' Properties?                                 [81] TriplesSameSubjectPath
abbrev pub same : Rule (Node × Properties)
same =
    either (mapped (λ (v : Node × Properties). v) (both subject properties))
    (mapped (λ (v : Node × Option Properties). (v.0, some_properties v.1)) (both (bracketed properties) (optional properties)))

-- Triples ::= Same ('.' Triples?)?                                                                  [55] TriplesBlock
abbrev pub triples_rule : Rule (List (Node × Properties))
triples_rule = dotted (sign symbol.Dot) same

-- ---- VALUES

-- Value ::= Iri | Literal | 'UNDEF'                                                             [65] DataBlockValue
abbrev pub value : Rule (Option Term)
value =
    either (mapped (λ name. Some (term.Iri name)) iri_name)
    (either (mapped Some literal) (mapped (λ w. None) (word keyword.Undef)))

abbrev pub in_braces : {A : Type 0} → Rule A → Rule A
in_braces p = second_of (sign symbol.OpenBrace) (first_of_both p (sign symbol.CloseBrace))

abbrev pub one_column : Rule Element
one_column =
    mapped (λ (v : List ℕ × List (Option Term)). values (v.0 ∷ []) (map (λ x. x ∷ []) v.1))
    (both variable_name (in_braces (many value)))

-- as many values, and then ')'
unfoldable pub value_row : ℕ → Rule (List (Option Term))
value_row zero = mapped (λ close. []) (sign symbol.CloseParen)
value_row (suc n) = mapped (λ (v : Option Term × List (Option Term)). v.0 ∷ v.1) (both value (value_row n))

abbrev pub name_if_variable : Said → Option (List ℕ)
name_if_variable said = cond (has (numbers (kind.Variable ∷ [])) (kind_number said)) (Some said.text) None

-- no variable twice
abbrev pub columns : Rule (List (List ℕ))
columns = distinct name_if_variable []

abbrev pub many_columns : Rule Element
many_columns =
    mapped (λ (v : List (List ℕ) × List (List (Option Term))). values v.0 v.1)
    (second_of (sign symbol.OpenParen)
    (tied (first_of_both columns (sign symbol.CloseParen))
    (λ names. in_braces (many (second_of (sign symbol.OpenParen) (value_row (length names)))))))

-- Block ::= Variable '{' Value* '}' | '(' Variable* ')' '{' ('(' Value* ')')* '}'                    [62] DataBlock
-- (a row has as many values as there are variables)
abbrev pub block : Rule Element
block = either one_column many_columns

-- ---- groups. `inner`: what stands behind the '{' of a group, to its '}'.

abbrev pub group_of : Rule (List Element) → Rule (List Element)
group_of inner = second_of (sign symbol.OpenBrace) inner

abbrev pub optional_rule : Rule (List Element) → Rule Element
optional_rule inner = mapped (λ g. optional_group (elements_in g)) (second_of (word keyword.Optional) (group_of inner))

abbrev pub minus_rule : Rule (List Element) → Rule Element
minus_rule inner = mapped (λ g. minus_group (elements_in g)) (second_of (word keyword.Minus) (group_of inner))

abbrev pub union_rule : Rule (List Element) → Rule Element
union_rule inner =
    mapped (λ (v : List Element × List (List Element)). union_of (groups_in (v.0 ∷ v.1)))
    (both (group_of inner) (many (second_of (word keyword.Union) (group_of inner))))

abbrev pub graph_name : Rule Graph
graph_name = either (mapped graph_variable variable_name) (mapped graph_iri iri_name)

abbrev pub graph_rule : Rule (List Element) → Rule Element
graph_rule inner =
    mapped (λ (v : Said × (Graph × List Element)). graph_group v.1.0 v.0.at (elements_in v.1.1))
    (both (word keyword.Graph) (both graph_name (group_of inner)))

abbrev pub window_rule : Rule (List Element) → Rule Element
window_rule inner =
    mapped (λ (v : Said × (List ℕ × List Element)). window_group v.1.0 v.0.at (elements_in v.1.1))
    (both (word keyword.Window) (both iri_name (group_of inner)))

abbrev pub exists_rule : Rule (List Element) → Rule Element
exists_rule inner =
    mapped (λ (v : Option Said × (Said × List Element)). exists (is_some v.0) v.1.0.at (elements_in v.1.1))
    (both (optional (word keyword.Not)) (both (word keyword.Exists) (group_of inner)))

abbrev pub filter_rule : Rule (List Element) → Rule Element
filter_rule inner =
    second_of (word keyword.Filter)
    (either (mapped filter (in_parens expression)) (either (mapped filter (call_rule expression)) (exists_rule inner)))

abbrev pub as_variable : Rule Expr → Rule (Expr × List ℕ)
as_variable e = in_parens (both e (second_of (word keyword.As) variable_name))

abbrev pub bind_rule : Rule Element
bind_rule = mapped (λ (v : Expr × List ℕ). bind v.0 v.1) (second_of (word keyword.Bind) (as_variable expression))

abbrev pub values_rule : Rule Element
values_rule = second_of (word keyword.Values) block

-- Other ::= 'OPTIONAL' Group | 'MINUS' Group | Group ('UNION' Group)* | 'GRAPH' (Variable | Iri) Group
--    | 'WINDOW' Iri Group | 'FILTER' ('(' Expr ')' | Call | 'NOT'? 'EXISTS' Group) | 'BIND' '(' Expr 'AS' Variable ')'
--    | 'VALUES' Block                                                                       [56] GraphPatternNotTriples
-- (WINDOW is of RSP-QL; no SERVICE; EXISTS stands in a FILTER alone)
abbrev pub other : Rule (List Element) → Rule Element
other inner =
    either (optional_rule inner) (either (minus_rule inner) (either (union_rule inner) (either (graph_rule inner)
    (either (window_rule inner) (either (filter_rule inner) (either bind_rule values_rule))))))

-- Select ::= 'SELECT' 'DISTINCT'? ('*' | (Variable | '(' AggExpr 'AS' Variable ')')+)                  [9] SelectClause
abbrev pub item_of : Rule Expr → Rule Item
item_of e = either (mapped shown variable_name) (mapped (λ (v : Expr × List ℕ). computed v.0 v.1) (as_variable e))

abbrev pub items_of : Rule Expr → Rule (List Item)
items_of e = mapped (λ (v : Item × List Item). v.0 ∷ v.1) (both (item_of e) (many (item_of e)))

abbrev pub projection : Rule Projection
projection =
    either (mapped (λ star. every_name) (sign (symbol.Sign operator.Multiply))) (mapped these (items_of aggregate_expression))

abbrev pub select_clause : Rule (Option Said × Projection)
select_clause = second_of (word keyword.Select) (both (optional (word keyword.Distinct)) projection)

-- Tail ::= ('GROUP' 'BY' (Variable | '(' Expr 'AS' Variable ')')+)? ('HAVING' '(' AggExpr ')')?
--                                                                                [18] SolutionModifier (of it these two)
abbrev pub keys : Rule (List Item)
keys = second_of (word keyword.Group) (second_of (word keyword.By) (items_of expression))

abbrev pub having : Rule Expr
having = second_of (word keyword.Having) (in_parens aggregate_expression)

abbrev pub tail : Rule (Option (List Item) × Option Expr)
tail = both (optional keys) (optional having)

-- Group ::= '{' (Select 'WHERE'? Group Tail | Triples? (Other '.'? Triples?)*) '}'
--                                     [53] GroupGraphPattern, [54] GroupGraphPatternSub, [8] SubSelect
abbrev pub sub_select_rule : Rule (List Element) → Rule (List Element)
sub_select_rule inner =
    mapped sub_select_of (both select_clause (both (optional (word keyword.Where)) (both (group_of inner) tail)))

abbrev pub piece : Rule (List Element) → Rule (List Element)
piece inner =
    mapped (λ (v : Element × (Option Said × Option (List (Node × Properties)))). v.0 ∷ run v.1.1)
    (both (other inner) (both (optional (sign symbol.Dot)) (optional triples_rule)))

abbrev pub body : Rule (List Element) → Rule (List Element)
body inner =
    mapped (λ (v : Option (List (Node × Properties)) × List (List Element)). run v.0 ++ flat_map (λ found. found) v.1)
    (both (optional triples_rule) (many (piece inner)))

abbrev pub group_rule : Rule (List Element) → Rule (List Element)
group_rule inner = first_of_both (either (sub_select_rule inner) (body inner)) (sign symbol.CloseBrace)

abbrev pub group : Rule (List Element)
group = group_of (within_itself group_rule)

-- ---- the query

abbrev pub span_text : Rule (List ℕ)
span_text = mapped text_of (one (kind.Span ∷ []))

-- Window ::= 'FROM' 'NAMED' 'WINDOW' Iri 'ON' Iri '[' 'RANGE' Span ('STEP' Span)? ('START' (Integer | String))? ']'
--                                                                     (in place of [13] DatasetClause; of RSP-QL)
-- the START is an integer up to the last instant, or a text that says an instant
abbrev pub origin_of_kind : Kind → List ℕ → Option ℕ
origin_of_kind kind.Integer text = cond (nat_le (digits_value 10 text) last_instant) (Some (digits_value 10 text)) None
origin_of_kind kind.String text = instant text
origin_of_kind _ text = None

abbrev pub origin : Rule ℕ
origin = token (λ said. origin_of_kind said.kind said.text)

abbrev pub window_size : Rule (List ℕ × (Option (List ℕ) × Option ℕ))
window_size =
    second_of (sign symbol.OpenBracket) (first_of_both
    (second_of (word keyword.Range) (both span_text
    (both (optional (second_of (word keyword.Step) span_text)) (optional (second_of (word keyword.Start) origin)))))
    (sign symbol.CloseBracket))

abbrev pub window_of : Said × (List ℕ × (List ℕ × (List ℕ × (Option (List ℕ) × Option ℕ)))) → Window
window_of v = record { at = v.0.at; name = v.1.0; stream = v.1.1.0; range = v.1.1.1.0; slide = v.1.1.1.1.0; origin = v.1.1.1.1.1 }

abbrev pub window : Rule Window
window =
    mapped window_of (both (word keyword.From) (second_of (word keyword.Named) (second_of (word keyword.Window)
    (both iri_name (second_of (word keyword.On) (both iri_name window_size))))))

-- Strategy ::= 'CLOSE' | 'CHANGE' | 'NONEMPTY' | 'EVERY' Span                                       (of this profile)
abbrev pub plain_strategies : List Kind
plain_strategies = map kind.Word (keyword.Close ∷ keyword.Change ∷ keyword.NonEmpty ∷ [])

abbrev pub strategy : Rule Strategy
strategy =
    either (mapped (λ said. record { kind = said.kind; period = None }) (one plain_strategies))
    (mapped (λ text. record { kind = kind.Word keyword.Every; period = Some text }) (second_of (word keyword.Every) span_text))

-- Policy ::= 'UNDER' ('CSPARQL' | 'CQELS') | 'REPORT' Strategy ('AND' Strategy)* 'TICK' ('TIME' | 'TUPLE')
abbrev pub profiles : List Kind
profiles = map kind.Word (keyword.Csparql ∷ keyword.Cqels ∷ [])

abbrev pub ticks : List Kind
ticks = map kind.Word (keyword.Time ∷ keyword.Tuple ∷ [])

abbrev pub reported : Rule Policy
reported =
    mapped (λ (v : (Strategy × List Strategy) × Said). reporting (v.0.0 ∷ v.0.1) v.1.kind)
    (second_of (word keyword.Report)
    (both (both strategy (many (second_of (word keyword.And) strategy))) (second_of (word keyword.Tick) (one ticks))))

abbrev pub policy : Rule Policy
policy = either (mapped (λ said. profile said.kind) (second_of (word keyword.Under) (one profiles))) reported

-- Operator ::= 'RSTREAM' | 'ISTREAM' | 'DSTREAM'
abbrev pub operators : List Kind
operators = map kind.Word (keyword.Rstream ∷ keyword.Istream ∷ keyword.Dstream ∷ [])

-- Query ::= Prefix* 'REGISTER' Operator Iri Policy? 'AS' Select Window+ 'WHERE'? Group Tail           [7] SelectQuery
abbrev pub registered : Rule (Said × (List ℕ × Option Policy))
registered =
    second_of (word keyword.Register) (both (one operators) (both iri_name (first_of_both (optional policy) (word keyword.As))))

abbrev pub windows : Rule (List Window)
windows = mapped (λ (v : Window × List Window). v.0 ∷ v.1) (both window (many window))

abbrev pub query_body : Rule Written
query_body =
    mapped written_of (both registered (both select_clause (both windows
    (both (second_of (optional (word keyword.Where)) group) tail))))

-- Prefix ::= 'PREFIX' Prefixed-with-empty-local Iri-token                                               [6] PrefixDecl
abbrev pub prefix_of_kind : Kind → Said → Option (List ℕ)
prefix_of_kind kind.Prefixed said = cond (is_nil said.local) (Some said.text) None
prefix_of_kind _ said = None

abbrev pub prefix : Rule (List ℕ × List ℕ)
prefix =
    second_of (word keyword.Prefix) (both (token (λ said. prefix_of_kind said.kind said)) iri_name)

-- what a token says under these prefixes, of which a later one counts: a prefixed name is an IRI, or can stand nowhere
abbrev pub declared_iri : List (List ℕ × List ℕ) → List ℕ → Option (List ℕ)
declared_iri [] name = None
declared_iri (p ∷ more) name = later (declared_iri more name) (cond (bytes_eq p.0 name) (Some p.1) None)

abbrev pub resolved_as : Said → Option (List ℕ) → Said
resolved_as said None = record { kind = kind.Nowhere; text = said.text; local = said.local; at = said.at }
resolved_as said (Some name) = record { kind = kind.Iri; text = name ++ said.local; local = []; at = said.at }

abbrev pub resolved_by : List (List ℕ × List ℕ) → Kind → Said → Said
resolved_by prefixes kind.Prefixed said = resolved_as said (declared_iri prefixes said.text)
resolved_by prefixes _ said = said

abbrev pub resolved : List (List ℕ × List ℕ) → Said → Said
resolved prefixes said = resolved_by prefixes said.kind said

abbrev pub query : Rule Written
query =
    mapped (λ (v : List (List ℕ × List ℕ) × Written). v.1) (tied (many prefix) (λ prefixes. seen (resolved prefixes) query_body))
