-- Rows of the table of words, worked out by hand.
use Rattle.std.proofs.Common.{◌≡◌, ℕ, Option, Some, None, List, [], ◌∷◌, refl}
use Rattle.std.specs.Path.{rsplit_once}
use Rattle.std.specs.Prelude.{codes, map, replicate}
use Rattle.std.specs.Str.{chars}
use Rattle.rsp_text.specs.Digits.{read_u64}
use Rattle.rsp_words.specs.declared.form.Form.{Form}
use Rattle.rsp_words.specs.declared.form.Form.TheVariants.{Table, Json}
use Rattle.rsp_words.specs.Words.{Mode, Stream, check, events, generate, mode_of, run}

pub no_words : mode_of [] ≡ None
no_words = refl

pub json_before_the_mode : mode_of (codes "--json" ∷ codes "events" ∷ []) ≡ None
json_before_the_mode = refl

pub json_of_a_check : mode_of (codes "check" ∷ codes "--json" ∷ codes "q.rq" ∷ []) ≡ None
json_of_a_check = refl

pub one_file : mode_of (codes "check" ∷ codes "q.rq" ∷ []) ≡ Some (check (codes "q.rq"))
one_file = refl

pub file_behind_dashes : mode_of (codes "check" ∷ codes "--" ∷ codes "q.rq" ∷ []) ≡ Some (check (codes "q.rq"))
file_behind_dashes = refl

pub file_before_dashes : mode_of (codes "check" ∷ codes "q.rq" ∷ codes "--" ∷ []) ≡ Some (check (codes "q.rq"))
file_before_dashes = refl

pub dashes_twice : mode_of (codes "check" ∷ codes "--" ∷ codes "--" ∷ []) ≡ None
dashes_twice = refl

pub name_with_a_dash : mode_of (codes "check" ∷ codes "--" ∷ codes "-q" ∷ []) ≡ None
name_with_a_dash = refl

pub no_name : mode_of (codes "check" ∷ [] ∷ []) ≡ None
no_name = refl

pub two_files : mode_of (codes "check" ∷ codes "a" ∷ codes "b" ∷ []) ≡ None
two_files = refl

pub zeros_in_front : mode_of (codes "gen" ∷ codes "007" ∷ []) ≡ Some (generate 7)
unfolding read_u64
zeros_in_front = refl

pub none_of_them : mode_of (codes "gen" ∷ codes "0" ∷ []) ≡ None
unfolding read_u64
none_of_them = refl

pub a_million : mode_of (codes "gen" ∷ codes "1000000" ∷ []) ≡ Some (generate 1000000)
unfolding read_u64
a_million = refl

pub one_too_many : mode_of (codes "gen" ∷ codes "1000001" ∷ []) ≡ None
unfolding read_u64
one_too_many = refl

pub with_a_sign : mode_of (codes "gen" ∷ codes "+5" ∷ []) ≡ None
unfolding read_u64
with_a_sign = refl

-- ---- `events`: what each of some lists of words behind it asks for

abbrev pub logs_by : List (List (List ℕ)) → List (Option Mode)
logs_by lists = map (λ words. mode_of (codes "events" ∷ words)) lists

abbrev pub log : Form → ℕ → Option Mode
log form slack = Some (events (record { form = form; slack = slack }))

abbrev pub json : List ℕ
json = codes "--json"

abbrev pub slack : List ℕ
slack = codes "--slack"

abbrev pub slack_5 : List ℕ
slack_5 = codes "--slack=5"

abbrev pub five : List ℕ
five = codes "5"

abbrev pub dashes : List ℕ
dashes = codes "--"

pub plain_log : logs_by ([] ∷ (dashes ∷ []) ∷ []) ≡ replicate 2 (log Table 0)
plain_log = refl

pub log_as_json : logs_by ((json ∷ []) ∷ (json ∷ dashes ∷ []) ∷ []) ≡ replicate 2 (log Json 0)
log_as_json = refl

-- `--json` behind `--` or twice, two `--`, a value
pub json_out_of_place : logs_by
    ((dashes ∷ json ∷ [])
    ∷ (json ∷ json ∷ [])
    ∷ (json ∷ dashes ∷ json ∷ [])
    ∷ (dashes ∷ dashes ∷ [])
    ∷ (json ∷ dashes ∷ dashes ∷ [])
    ∷ (codes "log" ∷ [])
    ∷ (json ∷ codes "log" ∷ [])
    ∷ (codes "--table" ∷ [])
    ∷ [])
    ≡ replicate 8 None
json_out_of_place = refl

pub with_slack : logs_by ((slack ∷ five ∷ []) ∷ (slack_5 ∷ []) ∷ (slack ∷ five ∷ dashes ∷ []) ∷ (slack_5 ∷ dashes ∷ []) ∷ [])
    ≡ replicate 4 (log Table 5)
unfolding read_u64
with_slack = refl

pub slack_and_json : logs_by
    ((json ∷ slack ∷ five ∷ [])
    ∷ (slack ∷ five ∷ json ∷ [])
    ∷ (json ∷ slack_5 ∷ dashes ∷ [])
    ∷ (slack_5 ∷ json ∷ [])
    ∷ [])
    ≡ replicate 4 (log Json 5)
unfolding read_u64
slack_and_json = refl

pub slack_in_digits : logs_by
    ((slack ∷ codes "0" ∷ [])
    ∷ (slack ∷ codes "007" ∷ [])
    ∷ (codes "--slack=86400000" ∷ [])
    ∷ (slack ∷ codes "86400001" ∷ [])
    ∷ (slack ∷ codes "-1" ∷ [])
    ∷ (slack ∷ codes "+1" ∷ [])
    ∷ (slack ∷ codes "18446744073709551616" ∷ [])
    ∷ (codes "--slack=" ∷ [])
    ∷ (slack ∷ [] ∷ [])
    ∷ [])
    ≡ log Table 0 ∷ log Table 7 ∷ log Table 86400000 ∷ replicate 6 None
unfolding read_u64
slack_in_digits = refl

-- `--slack` twice or behind `--`, without its number, with an option in its place, with a value, and of another mode
pub slack_out_of_place : logs_by
    ((slack_5 ∷ slack_5 ∷ [])
    ∷ (slack ∷ five ∷ slack ∷ five ∷ [])
    ∷ (slack ∷ five ∷ slack_5 ∷ [])
    ∷ (dashes ∷ slack_5 ∷ [])
    ∷ (dashes ∷ slack ∷ five ∷ [])
    ∷ (json ∷ dashes ∷ slack_5 ∷ [])
    ∷ (slack ∷ [])
    ∷ (json ∷ slack ∷ [])
    ∷ (slack ∷ dashes ∷ [])
    ∷ (slack ∷ dashes ∷ five ∷ [])
    ∷ (slack ∷ json ∷ [])
    ∷ (slack ∷ json ∷ five ∷ [])
    ∷ (slack ∷ five ∷ five ∷ [])
    ∷ (codes "--slack5" ∷ [])
    ∷ [])
    ≡ replicate 14 None
unfolding read_u64
slack_out_of_place = refl

-- ---- `run`: what each of some lists of words behind it asks for, with the query's file `q` and the stream `s:a` in the file `a`

abbrev pub asked_by : List (List (List ℕ)) → List (Option Mode)
asked_by lists = map (λ words. mode_of (codes "run" ∷ words)) lists

abbrev pub replayed : Form → Option (List ℕ) → List Stream → Option Mode
replayed form store streams = Some (run (record { form = form; store = store; query = codes "q"; streams = streams }))

abbrev pub wanted : Form → Option (List ℕ) → Option Mode
wanted form store = replayed form store (record { iri = codes "s:a"; file = codes "a" } ∷ [])

abbrev pub query : List ℕ
query = codes "q"

abbrev pub stream : List ℕ
stream = codes "s:a=a"

abbrev pub store : List ℕ
store = codes "--store"

abbrev pub store_r : List ℕ
store_r = codes "--store=r"

pub plain_run : asked_by ((query ∷ stream ∷ []) ∷ []) ≡ wanted Table None ∷ []
unfolding rsplit_once chars
plain_run = refl

pub json_at_each_place : asked_by
    ((json ∷ query ∷ stream ∷ [])
    ∷ (query ∷ json ∷ stream ∷ [])
    ∷ (query ∷ stream ∷ json ∷ [])
    ∷ (json ∷ dashes ∷ query ∷ stream ∷ [])
    ∷ (json ∷ query ∷ stream ∷ dashes ∷ [])
    ∷ [])
    ≡ replicate 5 (wanted Json None)
unfolding rsplit_once chars
json_at_each_place = refl

pub store_at_each_place : asked_by
    ((store ∷ codes "r" ∷ query ∷ stream ∷ [])
    ∷ (query ∷ store ∷ codes "r" ∷ stream ∷ [])
    ∷ (query ∷ stream ∷ store ∷ codes "r" ∷ [])
    ∷ (store_r ∷ query ∷ stream ∷ [])
    ∷ (query ∷ store_r ∷ dashes ∷ stream ∷ [])
    ∷ (query ∷ stream ∷ store_r ∷ dashes ∷ [])
    ∷ [])
    ≡ replicate 6 (wanted Table (Some (codes "r")))
unfolding rsplit_once chars
store_at_each_place = refl

pub both_options : asked_by
    ((json ∷ store ∷ codes "r" ∷ query ∷ stream ∷ [])
    ∷ (store ∷ codes "r" ∷ json ∷ query ∷ stream ∷ [])
    ∷ (query ∷ store_r ∷ stream ∷ json ∷ [])
    ∷ (json ∷ query ∷ stream ∷ store ∷ codes "r" ∷ dashes ∷ [])
    ∷ [])
    ≡ replicate 4 (wanted Json (Some (codes "r")))
unfolding rsplit_once chars
both_options = refl

pub dashes_at_each_place : asked_by
    ((dashes ∷ query ∷ stream ∷ [])
    ∷ (query ∷ dashes ∷ stream ∷ [])
    ∷ (query ∷ stream ∷ dashes ∷ [])
    ∷ [])
    ≡ replicate 3 (wanted Table None)
unfolding rsplit_once chars
dashes_at_each_place = refl

-- an option twice or behind `--`, two `--`, an option without its file, a file that is an option, another option
pub options_out_of_place : asked_by
    ((json ∷ json ∷ query ∷ stream ∷ [])
    ∷ (query ∷ json ∷ stream ∷ json ∷ [])
    ∷ (dashes ∷ json ∷ query ∷ stream ∷ [])
    ∷ (query ∷ dashes ∷ stream ∷ json ∷ [])
    ∷ (store_r ∷ store_r ∷ query ∷ stream ∷ [])
    ∷ (store ∷ codes "r" ∷ query ∷ stream ∷ store ∷ codes "r" ∷ [])
    ∷ (dashes ∷ store_r ∷ query ∷ stream ∷ [])
    ∷ (query ∷ stream ∷ dashes ∷ store ∷ codes "r" ∷ [])
    ∷ (dashes ∷ dashes ∷ query ∷ stream ∷ [])
    ∷ (query ∷ stream ∷ dashes ∷ dashes ∷ [])
    ∷ (query ∷ stream ∷ store ∷ [])
    ∷ (codes "--store=" ∷ query ∷ stream ∷ [])
    ∷ (store ∷ json ∷ query ∷ stream ∷ [])
    ∷ (store ∷ dashes ∷ query ∷ stream ∷ [])
    ∷ (codes "--table" ∷ query ∷ stream ∷ [])
    ∷ (slack_5 ∷ query ∷ stream ∷ [])
    ∷ [])
    ≡ replicate 16 None
unfolding rsplit_once chars
options_out_of_place = refl

pub cut_at_the_last_sign : asked_by ((query ∷ codes "s:a=b=a" ∷ []) ∷ [])
    ≡ replayed Table None (record { iri = codes "s:a=b"; file = codes "a" } ∷ []) ∷ []
unfolding rsplit_once chars
cut_at_the_last_sign = refl

-- a name that is relative or empty or that no IRI has, no file, no `=`, a file with `-` in front
pub no_streams : asked_by
    ((query ∷ codes "a=a" ∷ [])
    ∷ (query ∷ codes "=a" ∷ [])
    ∷ (query ∷ codes "s:<a=a" ∷ [])
    ∷ (query ∷ codes "s:a=" ∷ [])
    ∷ (query ∷ codes "s:a" ∷ [])
    ∷ (query ∷ codes "s:a=-a" ∷ [])
    ∷ (query ∷ stream ∷ codes "a" ∷ [])
    ∷ [])
    ≡ replicate 7 None
unfolding rsplit_once chars
no_streams = refl

pub no_query : asked_by (([] ∷ stream ∷ []) ∷ (codes "-q" ∷ stream ∷ []) ∷ []) ≡ replicate 2 None
no_query = refl

pub so_many_streams : asked_by
    ((query ∷ []) ∷ (query ∷ replicate 16 stream) ∷ (query ∷ replicate 17 stream) ∷ [] ∷ [])
    ≡ None ∷ replayed Table None (replicate 16 (record { iri = codes "s:a"; file = codes "a" })) ∷ None ∷ None ∷ []
unfolding rsplit_once chars
so_many_streams = refl
