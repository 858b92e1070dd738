-- What is worked out part by part is what the definitions say of all parts.
use Rattle.std.specs.Prelude.{◌≡◌, Bool, true, false, not, ◌||◌, if◌then◌else◌, Option, Some, None, is_some, unwrap_or, List, [], ◌∷◌, map, refl}
use Rattle.std.specs.Bool.{beq}
use Rattle.std.specs.List.{list_any, list_all}
use Rattle.std.specs.Option.{option_and_then, option_eq}
use Rattle.std.proofs.Common.{ap, sym, ◌∙◌, true≢false}
use Rattle.rsp_terms.specs.declared.term.Term.{Term}
use Rattle.rsp_expr.specs.Booleans.{disjunction_of, conjunction_of, logical_not, truth_of}
use Rattle.rsp_expr.specs.Comparing.{member_truth, equality}
use Rattle.rsp_expr.specs.Errors.{value_of_both, all_values}
use Rattle.rsp_expr.specs.Functions.{function_value, call_value}
use Rattle.rsp_functions.specs.declared.function.Function.TheVariants as function
use Rattle.rsp_values.specs.Parts.{logical_or, logical_and, either_of, all_of, membership_of, branch, if_value, connective, connected, connection, undecided}

-- by whether a part is true, and whether none is an error
abbrev by_parts : Bool → Bool → Option Bool
by_parts some all = if some then Some true else if all then Some false else None

one_more : (part : Option Bool) (some all : Bool)
    → by_parts (if unwrap_or part false then true else some) (if is_some part then all else false) ≡ logical_or part (by_parts some all)
one_more None true true = refl
one_more None true false = refl
one_more None false true = refl
one_more None false false = refl
one_more (Some true) true true = refl
one_more (Some true) true false = refl
one_more (Some true) false true = refl
one_more (Some true) false false = refl
one_more (Some false) true true = refl
one_more (Some false) true false = refl
one_more (Some false) false true = refl
one_more (Some false) false false = refl

step : (part : Option Bool) (parts : List (Option Bool)) → disjunction_of (part ∷ parts) ≡ logical_or part (disjunction_of parts)
step None parts = one_more None (list_any (λ p. unwrap_or p false) parts) (list_all is_some parts)
step (Some true) parts = one_more (Some true) (list_any (λ p. unwrap_or p false) parts) (list_all is_some parts)
step (Some false) parts = one_more (Some false) (list_any (λ p. unwrap_or p false) parts) (list_all is_some parts)

either_is : (parts : List (Option Bool)) → either_of parts ≡ disjunction_of parts
either_is [] = refl
either_is (part ∷ parts) = ap (logical_or part) (either_is parts) ∙ sym (step part parts)

turned : (part others : Option Bool) → logical_and part (logical_not others) ≡ logical_not (logical_or (logical_not part) others)
turned None None = refl
turned None (Some true) = refl
turned None (Some false) = refl
turned (Some true) None = refl
turned (Some true) (Some true) = refl
turned (Some true) (Some false) = refl
turned (Some false) None = refl
turned (Some false) (Some true) = refl
turned (Some false) (Some false) = refl

all_is : (parts : List (Option Bool)) → all_of parts ≡ conjunction_of parts
all_is [] = refl
all_is (part ∷ parts) =
    ap (logical_and part) (all_is parts)
    ∙ turned part (disjunction_of (map logical_not parts))
    ∙ sym (ap logical_not (step (logical_not part) (map logical_not parts)))

pub member_is : (item : Option Term) (members : List (Option Term)) → membership_of item members ≡ member_truth item members
member_is item members = either_is (map (value_of_both equality item) members)

-- a part that doesn't decide
beside : (deciding erred : Bool) (truth all : Option Bool) → option_eq beq truth (Some deciding) ≡ false
    → connection deciding (undecided deciding (erred || not (is_some truth))) all
    ≡ connection deciding (undecided deciding erred) (connection deciding truth all)
beside true true None None isnt = refl
beside true true None (Some true) isnt = refl
beside true true None (Some false) isnt = refl
beside true true (Some true) all isnt = absurd (true≢false isnt)
beside true true (Some false) None isnt = refl
beside true true (Some false) (Some true) isnt = refl
beside true true (Some false) (Some false) isnt = refl
beside true false None None isnt = refl
beside true false None (Some true) isnt = refl
beside true false None (Some false) isnt = refl
beside true false (Some true) all isnt = absurd (true≢false isnt)
beside true false (Some false) None isnt = refl
beside true false (Some false) (Some true) isnt = refl
beside true false (Some false) (Some false) isnt = refl
beside false true None None isnt = refl
beside false true None (Some true) isnt = refl
beside false true None (Some false) isnt = refl
beside false true (Some false) all isnt = absurd (true≢false isnt)
beside false true (Some true) None isnt = refl
beside false true (Some true) (Some true) isnt = refl
beside false true (Some true) (Some false) isnt = refl
beside false false None None isnt = refl
beside false false None (Some true) isnt = refl
beside false false None (Some false) isnt = refl
beside false false (Some false) all isnt = absurd (true≢false isnt)
beside false false (Some true) None isnt = refl
beside false false (Some true) (Some true) isnt = refl
beside false false (Some true) (Some false) isnt = refl

opened : (deciding : Bool) (truth : Option Bool) (parts : List (Option Bool))
    → connection deciding truth (connected deciding parts) ≡ connected deciding (truth ∷ parts)
opened true truth parts = refl
opened false truth parts = refl

pub passed : (deciding erred : Bool) (truth : Option Bool) (parts : List (Option Bool)) → option_eq beq truth (Some deciding) ≡ false
    → connection deciding (undecided deciding (erred || not (is_some truth))) (connected deciding parts)
    ≡ connection deciding (undecided deciding erred) (connected deciding (truth ∷ parts))
passed deciding erred truth parts isnt =
    beside deciding erred truth (connected deciding parts) isnt
    ∙ ap (connection deciding (undecided deciding erred)) (opened deciding truth parts)

-- where a part decides, and where none did
pub decided : (deciding erred : Bool) (truth : Option Bool) (parts : List (Option Bool)) → option_eq beq truth (Some deciding) ≡ true
    → Some deciding ≡ connection deciding (undecided deciding erred) (connected deciding (truth ∷ parts))
decided deciding erred None parts is = absurd (true≢false (sym is))
decided true erred (Some false) parts is = absurd (true≢false (sym is))
decided false erred (Some true) parts is = absurd (true≢false (sym is))
decided true true (Some true) parts is = refl
decided true false (Some true) parts is = refl
decided false true (Some false) parts is = refl
decided false false (Some false) parts is = refl

pub at_end : (deciding erred : Bool)
    → undecided deciding erred ≡ connection deciding (undecided deciding erred) (connected deciding [])
at_end true true = refl
at_end true false = refl
at_end false true = refl
at_end false false = refl

pub connective_is : (deciding : Bool) (parts : List (Option Bool)) → connected deciding parts ≡ connective deciding parts
connective_is true parts = either_is parts
connective_is false parts = all_is parts

-- ---- IF

chosen : (truth : Option Bool) (first second : Option Term)
    → branch truth first second ≡ option_and_then (λ holds. if holds then first else second) truth
chosen None first second = refl
chosen (Some true) first second = refl
chosen (Some false) first second = refl

none : (terms : Option (List Term)) → None ≡ option_and_then (function_value function.If) terms
none None = refl
none (Some terms) = refl

pub if_is : (arguments : List (Option Term)) → if_value arguments ≡ call_value function.If arguments
if_is [] = none (all_values [])
if_is (a ∷ []) = none (all_values (a ∷ []))
if_is (a ∷ b ∷ []) = none (all_values (a ∷ b ∷ []))
if_is (a ∷ b ∷ c ∷ []) = chosen (truth_of a) b c
if_is (a ∷ b ∷ c ∷ d ∷ others) = none (all_values (a ∷ b ∷ c ∷ d ∷ others))
