-- Words of the way: rules that hold themselves, at most so deep, and what stands between `;`.
use Rattle.std.specs.Prelude.{ℕ, List, [], ◌∷◌, Option, None, Some}
use Rattle.rsp_phrases.specs.Readers.{Reader, nested_read, second_read}
use Rattle.rsp_written.specs.declared.said.Said.{Said}
use Rattle.rsp_written.specs.declared.said.Symbol.TheVariants as symbol
use Rattle.rsp_written.specs.Readings.{maybe_read, sign_read}
use Rattle.rsp_written.specs.Trees.{Way, Verb, Node, Properties}
use Rattle.rsp_written.specs.TripleReadings.{path_rule_read, properties_rule_read, property_read, verb_first}

unfoldable pub path_within : ℕ → Reader Said Way
path_within depth = nested_read path_rule_read depth

unfoldable pub properties_within : ℕ → Reader Said Properties
properties_within depth = nested_read properties_rule_read depth

-- maybe a verb with its objects
abbrev pub behind_semicolon_read : Reader Said Properties → Reader Said (Option (Verb × List Node))
behind_semicolon_read s = second_read (sign_read symbol.Semicolon) (maybe_read verb_first (property_read s))

abbrev pub if_there : {A : Type 0} → Option A → List A
if_there None = []
if_there (Some x) = x ∷ []
