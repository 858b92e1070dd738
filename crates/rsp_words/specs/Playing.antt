-- Words of the way: the words of `run` that are read one by one, and what it is asked for, as their readers have them, whose
-- texts are borrowed.
use Rattle.std.specs.Prelude.{ℕ, Option, None, Some, List, ◌++◌, map, option_map}
use Rattle.std.specs.Borrow.{Bor}
use Rattle.rsp_words.specs.declared.form.Form.{Form}
use Rattle.rsp_words.specs.declared.form.Form.TheVariants.{Table, Json}
use Rattle.rsp_words.specs.declared.options.Options as options_read
use Rattle.rsp_words.specs.declared.replay.Stream as stream_read
use Rattle.rsp_words.specs.declared.replay.Replay as replay_read
use Rattle.rsp_words.specs.Words.{Replay, Stream, form_of, store_of, values, without_json, without_store}

-- ---- the words that are left, behind some that are read

-- an option that was read is no more looked for
abbrev pub rest_of : {X : Type 0} → Option X → List (List ℕ) → List (List ℕ)
rest_of None words = without_store words
rest_of (Some file) words = words

abbrev pub form_ahead : Form → List (List ℕ) → Form
form_ahead Table words = form_of words
form_ahead Json words = Json

abbrev pub values_ahead : Form → List (List ℕ) → List (List ℕ)
values_ahead Table words = values (without_json words)
values_ahead Json words = values words

abbrev pub store_ahead : Option (Bor (List ℕ)) → List (List ℕ) → Option (List ℕ)
store_ahead None words = store_of words
store_ahead (Some file) words = Some file.now

abbrev pub values_in : options_read.Options → List (List ℕ)
values_in found = map (λ value. value.now) found.values.items

-- the options and the values of all words
pub record Options : Type 0 where
  pub form : Form
  pub store : Option (List ℕ)
  pub values : List (List ℕ)

abbrev pub options : options_read.Options → List (List ℕ) → Options
options found words = record {
  form = form_ahead found.form (rest_of found.store words);
  store = store_ahead found.store words;
  values = values_in found ++ values_ahead found.form (rest_of found.store words);
}

abbrev pub options_of : List (List ℕ) → Options
options_of words = record {
  form = form_of (without_store words);
  store = store_of words;
  values = values (without_json (without_store words));
}

-- those that are read
abbrev pub options_in : options_read.Options → Options
options_in found = record {
  form = found.form;
  store = option_map (λ file. file.now) found.store;
  values = values_in found;
}

-- ---- what `run` is asked for

abbrev pub stream_for : stream_read.Stream → Stream
stream_for stream = record { iri = stream.iri.now; file = stream.file.now }

abbrev pub replay_for : replay_read.Replay → Replay
replay_for replay = record {
  form = replay.form;
  store = option_map (λ file. file.now) replay.store;
  query = replay.query.now;
  streams = map stream_for replay.streams.items;
}
