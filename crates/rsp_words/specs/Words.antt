-- Definitions: what the program's words ask for: the table of the command line.
use Rattle.std.specs.Prelude.{ℕ, Bool, true, false, not, ◌&&◌, ◌==◌, nat_le, nat_eq, if◌then◌else◌, Option, Some, None, List, [], ◌∷◌, ◌++◌, length, drop, map, option_map, option_to_list, codes, bytes_eq}
use Rattle.std.specs.Bool.{then_some}
use Rattle.std.specs.List.{starts_with}
use Rattle.std.specs.Map.{lookup}
use Rattle.std.specs.Option.{is_some, option_and_then, option_map_or, option_or}
use Rattle.std.specs.Path.{rsplit_once}
use Rattle.std.specs.Str.{byte, chars}
use Rattle.rsp_spec.specs.Limits.{most_items, most_slack, most_streams}
use Rattle.rsp_terms.specs.Characters.{is_iri_text}
use Rattle.rsp_text.specs.Digits.{read_u64}
use Rattle.rsp_words.specs.declared.form.Form.{Form}
use Rattle.rsp_words.specs.declared.form.Form.TheVariants.{Table, Json}
use Rattle.rsp_words.specs.declared.log.Log.{Log}

-- a recorded stream: its name, and the name of its file
pub record Stream : Type 0 where
  pub iri : List ℕ
  pub file : List ℕ

-- recorded streams for the query in the file of this name, over the stored quads in the file of a name, if there is one; reports
-- are written in this form
pub record Replay : Type 0 where
  pub form : Form
  pub store : Option (List ℕ)
  pub query : List ℕ
  pub streams : List Stream

-- the files that are read, in this order: the query's, that of the stored quads, and those of the streams
abbrev pub names_behind : Replay → List (List ℕ)
names_behind replay = option_to_list replay.store ++ map (λ (stream : Stream). stream.file) replay.streams

abbrev pub names_of : Replay → List (List ℕ)
names_of replay = replay.query ∷ names_behind replay

-- to work off a log; to replay recorded streams for a query; to check the query in the file of this name; to work off so many
-- items of the generator
pub data Mode : Type 0 where
  events : Log → Mode
  run : Replay → Mode
  check : List ℕ → Mode
  generate : ℕ → Mode

-- ---- what stands behind the word of a mode: options, then values; a first `--` may stand anywhere among them and ends them

abbrev pub is_dashes : List ℕ → Bool
is_dashes word = bytes_eq word (codes "--")

abbrev pub is_json : List ℕ → Bool
is_json word = bytes_eq word (codes "--json")

-- the form that the option `--json` asks for: JSON where it stands before a `--`
abbrev pub form_of : List (List ℕ) → Form
form_of [] = Table
form_of (word ∷ more) = if is_dashes word then Table else (if is_json word then Json else form_of more)

-- the words without this option; another `--json`, or one behind `--`, stays, and is no value that a mode takes
abbrev pub without_json : List (List ℕ) → List (List ℕ)
without_json [] = []
without_json (word ∷ more) =
    if is_dashes word then word ∷ more else (if is_json word then more else word ∷ without_json more)

-- what stands behind the front of a text
abbrev pub behind : List ℕ → List ℕ → Option (List ℕ)
behind front text = if starts_with nat_eq text front then Some (drop (length front) text) else None

-- what stands behind an option's name and `=`
abbrev pub value_in : List ℕ → List ℕ → Option (List ℕ)
value_in name word = option_and_then (behind (codes "=")) (behind name word)

-- the value of the option of this name, before a `--`: what stands behind its `=`, or the next word
abbrev pub value_of : List ℕ → List (List ℕ) → Option (List ℕ)
value_of name [] = None
value_of name (word ∷ []) = if is_dashes word then None else value_in name word
value_of name (word ∷ next ∷ more) =
    if is_dashes word
    then None
    else (if bytes_eq word name then Some next else option_or (value_in name word) (value_of name (next ∷ more)))

-- the words without this option; another one stays, and is no value that a mode takes
abbrev pub without : List ℕ → List (List ℕ) → List (List ℕ)
without name [] = []
without name (word ∷ []) =
    if is_dashes word then word ∷ [] else (if is_some (value_in name word) then [] else word ∷ [])
without name (word ∷ next ∷ more) =
    if is_dashes word
    then word ∷ next ∷ more
    else
    (if bytes_eq word name
    then more
    else (if is_some (value_in name word) then next ∷ more else word ∷ without name (next ∷ more)))

-- the file that the option `--store` names
abbrev pub store_of : List (List ℕ) → Option (List ℕ)
store_of words = value_of (codes "--store") words

abbrev pub without_store : List (List ℕ) → List (List ℕ)
without_store words = without (codes "--store") words

-- the number that the option `--slack` gives
abbrev pub slack_of : List (List ℕ) → Option (List ℕ)
slack_of words = value_of (codes "--slack") words

abbrev pub without_slack : List (List ℕ) → List (List ℕ)
without_slack words = without (codes "--slack") words

-- the values: all words but the first `--`
abbrev pub values : List (List ℕ) → List (List ℕ)
values [] = []
values (word ∷ more) = if is_dashes word then more else word ∷ values more

-- a file's name has at least one byte, and doesn't begin with `-`
abbrev pub is_file : List ℕ → Bool
is_file [] = false
is_file (first ∷ rest) = not (first == byte "-")

-- a number of items, in digits
abbrev pub is_count : ℕ → Bool
is_count count = nat_le 1 count && nat_le count most_items

-- ---- the rows of the table, each by its options and its values

-- a slack in milliseconds, in digits: at most a day; none is 0
abbrev pub slack_read : Option (List ℕ) → Option ℕ
slack_read None = Some 0
slack_read (Some digits) = option_and_then (λ slack. then_some (nat_le slack most_slack) slack) (read_u64 digits)

abbrev pub log_for : Form → List (List ℕ) → Option ℕ → Option Log
log_for form [] slack = option_map (λ slack. record { form = form; slack = slack }) slack
log_for form _ slack = None

-- events [--json] [--slack N]
abbrev pub log_of : List (List ℕ) → Option Log
log_of words =
    let rest = without_slack words in
    log_for (form_of rest) (values (without_json rest)) (slack_read (slack_of words))

abbrev pub events_of : List (List ℕ) → Option Mode
events_of words = option_map events (log_of words)

-- a stream's word is cut at its last `=`; its name is an absolute IRI
abbrev pub stream_of : List ℕ → Option Stream
stream_of word =
    option_and_then (λ cut. then_some (is_iri_text (chars cut.0) && is_file cut.1) (record { iri = cut.0; file = cut.1 }))
    (rsplit_once (byte "=") word)

-- all words as streams; none where one isn't
abbrev pub streams_of : List (List ℕ) → Option (List Stream)
streams_of [] = Some []
streams_of (word ∷ words) =
    option_and_then (λ stream. option_map (λ streams. stream ∷ streams) (streams_of words)) (stream_of word)

-- run [--json] [--store FILE] QUERY STREAM=FILE..: one to sixteen streams
abbrev pub replay_of : Form → Option (List ℕ) → List (List ℕ) → Option Replay
replay_of form store [] = None
replay_of form store (query ∷ words) =
    if is_file query && (option_map_or is_file store true && (nat_le 1 (length words) && nat_le (length words) most_streams))
    then
    option_map (λ streams. record { form = form; store = store; query = query; streams = streams }) (streams_of words)
    else None

abbrev pub run_of : List (List ℕ) → Option Mode
run_of words =
    let rest = without_store words in
    option_map run (replay_of (form_of rest) (store_of words) (values (without_json rest)))

-- check QUERY
abbrev pub check_of : List (List ℕ) → Option Mode
check_of (query ∷ []) = if is_file query then Some (check query) else None
check_of _ = None

-- gen COUNT
abbrev pub generate_of : List (List ℕ) → Option Mode
generate_of (count ∷ []) = option_and_then (λ number. then_some (is_count number) (generate number)) (read_u64 count)
generate_of _ = None

-- ---- the table: the word of a mode, and what it makes of the words behind it

abbrev pub table : List (List ℕ × (List (List ℕ) → Option Mode))
table =
    (codes "events", events_of)
    ∷ (codes "run", run_of)
    ∷ (codes "check", λ words. check_of (values words))
    ∷ (codes "gen", λ words. generate_of (values words))
    ∷ []

-- none where the words are in no row
abbrev pub mode_of : List (List ℕ) → Option Mode
mode_of [] = None
mode_of (word ∷ more) = option_and_then (λ row. row more) (lookup (bytes_eq word) table)
