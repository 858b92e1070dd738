-- That a directive read by one field and then the next is the directive of the definition.
use Rattle.std.proofs.Common.{◌≡◌, refl, ap, ◌∙◌, ◌-◌, take, drop}
use Rattle.std.specs.Prelude.{ℕ, ◌==◌, Bool, true, false, if◌then◌else◌, Option, None, Some, List, [], ◌∷◌, length, codes, bytes_eq}
use Rattle.std.specs.Prelude.{Result, Ok, Err, IfOk}
use Rattle.std.specs.Bool.{then_some}
use Rattle.std.specs.Option.{option_map}
use Rattle.rsp_text.proofs.InstantLaws.{rest_is}
use Rattle.rsp_events.specs.declared.directives.Directive.{Directive}
use Rattle.rsp_events.specs.declared.directives.Directive.TheVariants as directive
use Rattle.rsp_events.specs.Directives.{alone, directive_by, directive_of, fields, is_name, item, named, timed}
use Rattle.rsp_events.specs.Lines.{first_field}
use Rattle.rsp_events.specs.DirectiveSteps.{directive_alone, directive_read, directive_with_name, directive_with_time, item_of_fields}

name_by : (f : List ℕ → Directive) (name : List ℕ) (b : Bool)
    → option_map f (if b then Some name else None) ≡ then_some b (f name)
name_by f name true = refl
name_by f name false = refl

named_is : (f : List ℕ → Directive) (fields : List (List ℕ)) → directive_with_name f fields ≡ named f fields
named_is f [] = refl
named_is f (name ∷ []) = name_by f name (is_name name)
named_is f (name ∷ other ∷ more) = refl

timed_is : (f : ℕ → Directive) (fields : List (List ℕ)) → directive_with_time f fields ≡ timed f fields
timed_is f [] = refl
timed_is f (time ∷ []) = refl
timed_is f (time ∷ other ∷ more) = refl

item_is : (fields : List (List ℕ)) → item_of_fields fields ≡ item fields
item_is [] = refl
item_is (stream ∷ []) = refl
item_is (stream ∷ time ∷ []) = refl
item_is (stream ∷ time ∷ other ∷ more) = refl

alone_by : (d : Directive) (b : Bool) → (if b then Some d else None) ≡ then_some b d
alone_by d true = refl
alone_by d false = refl

alone_is : (d : Directive) (fields : List (List ℕ)) → directive_alone d fields ≡ alone d fields
alone_is d fields = alone_by d (length fields == 0)

chosen : (b : Bool) (o o' p p' : Option Directive) → o ≡ o' → p ≡ p' → (if b then o else p) ≡ (if b then o' else p')
chosen true o o' p p' ho hp = ho
chosen false o o' p p' ho hp = hp

pub directive_is : (word : List ℕ) (fields : List (List ℕ)) → directive_read word fields ≡ directive_by word fields
unfolding directive_by directive_read
directive_is word fields =
    chosen (bytes_eq word (codes "@register")) _ _ _ _ (named_is (λ name. directive.Register name) fields)
    (chosen (bytes_eq word (codes "@cancel")) _ _ _ _ (named_is (λ name. directive.Cancel name) fields)
    (chosen (bytes_eq word (codes "@item")) _ _ _ _ (item_is fields)
    (chosen (bytes_eq word (codes "@tick")) _ _ _ _ (timed_is (λ time. directive.Tick time) fields)
    (chosen (bytes_eq word (codes "@insert")) _ _ _ _ (alone_is directive.Insert fields)
    (chosen (bytes_eq word (codes "@delete")) _ _ _ _ (alone_is directive.Delete fields) refl)))))

-- what was read of the first field and of what stands behind it is the directive of the line
pub read_directive : {E : Type 0} → (line word : List ℕ) (result : Result (Option Directive) E) → word ≡ first_field line
    → IfOk result (λ d. d ≡ directive_read word (fields (take (length line - length word) (drop (length word) line))))
    → IfOk result (λ d. d ≡ directive_of line)
read_directive line word (Ok d) same read =
    read ∙ ap (λ rest. directive_read word (fields rest)) (rest_is (length word) line)
    ∙ ap (λ w. directive_read w (fields (drop (length w) line))) same
    ∙ directive_is (first_field line) (fields (drop (length (first_field line)) line))
read_directive line word (Err e) same read = tt
