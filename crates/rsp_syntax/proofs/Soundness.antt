-- The query that a text is names its own variables alone.
use Rattle.std.proofs.Common.{◌≡◌, ℕ, List, [], length, map, Result, Ok, Err, subst, sym, arith}
use Rattle.std.specs.Result.{IfOk}
use Rattle.std.proofs.lemmas.List.{length-map}
use Rattle.rsp_query.specs.declared.query.Query.{Query}
use Rattle.rsp_query.specs.Queries.{Registered}
use Rattle.rsp_query.specs.Meanings.{registered}
use Rattle.rsp_written.specs.Trees.{Written}
use Rattle.rsp_numbering.specs.Naming.{behind_select, nothing, variable_text}
use Rattle.rsp_numbering.specs.SelectionSteps.{behind_selected, projection_of, within}
use Rattle.rsp_numbering.specs.Clauses.{query_of}
use Rattle.rsp_numbering.specs.Results.{query_by}
use Rattle.rsp_numbering.proofs.Made.{query_of_is}
use Rattle.rsp_shapes.specs.Sound.{IsSound}
use Rattle.rsp_syntax.specs.Answers.{IsParsed}
use Rattle.rsp_syntax.specs.Deciding.{parse}
use Rattle.rsp_syntax.specs.declared.fault.SyntaxFault.{SyntaxFault}
use Rattle.rsp_syntax.proofs.SoundGroups.{within_sound}
use Rattle.rsp_syntax.proofs.Tied.{tied}

query_by_sound : (w : Written) → IsSound (query_by w)
query_by_sound w =
    let texts = length-map (behind_selected [] nothing w.select).variables variable_text in
    within_sound (length (map variable_text (behind_selected [] nothing w.select).variables))
    (within nothing (projection_of w.select) []) (behind_select nothing) w.select (omega (arith, texts))

pub query_sound : (w : Written) → IsSound (query_of w)
query_sound w = subst IsSound (sym (query_of_is w)) (query_by_sound w)

pub parse_sound : (text : List ℕ) (query : Registered) → parse text ≡ Ok query → IsSound query
parse_sound text query is =
    let said = (tied text (Ok query)).0 is in
    subst IsSound said.is (query_sound said.written)

pub answer_sound : (text : List ℕ) (answer : Result Query SyntaxFault) → IsParsed answer (parse text)
    → IfOk answer (λ query. IsSound (registered query))
answer_sound text (Ok query) is = parse_sound text (registered query) is
answer_sound text (Err fault) is = tt
