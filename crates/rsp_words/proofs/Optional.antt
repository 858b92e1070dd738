-- The words of `run` that name streams, one by one.
use Rattle.std.proofs.Common.{◌≡◌, ℕ, zero, suc, ◌+◌, List, [], ◌∷◌, ◌++◌, length, length-append, drop, map, Option, None, Some, refl, sym, ◌∙◌, ap, append_assoc, append-nil}
use Rattle.std.specs.Borrow.{Bor}
use Rattle.std.specs.List.{slice_get}
use Rattle.std.specs.Option.{option_and_then, option_map}
use Rattle.rsp_words.specs.declared.replay.Stream as stream_read
use Rattle.rsp_words.specs.Playing.{stream_for}
use Rattle.rsp_words.specs.Words.{Stream, stream_of, streams_of}

-- the streams of some of the words are read
pub record Streaming (words : List (Bor (List ℕ))) (index : ℕ) (streams : List stream_read.Stream) : Type 0 where
  pub all : option_map (λ rest. map stream_for streams ++ rest) (streams_of (map (λ word. word.now) (drop index words))) ≡ streams_of (map (λ word. word.now) words)
  pub many : length streams ≡ index

map-end : (streams : List stream_read.Stream) (stream : stream_read.Stream) → map stream_for (streams ++ stream ∷ []) ≡ map stream_for streams ++ stream_for stream ∷ []
map-end [] stream = refl
map-end (first ∷ streams) stream = ap (λ rest. stream_for first ∷ rest) (map-end streams stream)

with_one : (streams : List stream_read.Stream) (stream : stream_read.Stream) (rest : Option (List Stream)) → option_map (λ rest. map stream_for (streams ++ stream ∷ []) ++ rest) rest ≡ option_map (λ rest. map stream_for streams ++ rest) (option_map (λ rest. stream_for stream ∷ rest) rest)
with_one streams stream None = refl
with_one streams stream (Some rest) = ap Some (ap (λ front. front ++ rest) (map-end streams stream) ∙ append_assoc (map stream_for streams) (stream_for stream ∷ []) rest)

pub streaming_none : (words : List (Bor (List ℕ))) → Streaming words 0 []
streaming_none words = record { all = same (streams_of (map (λ word. word.now) words)); many = refl }
  where
    same : (streams : Option (List Stream)) → option_map (λ rest. rest) streams ≡ streams
    same None = refl
    same (Some streams) = refl

pub streaming_on : (words : List (Bor (List ℕ))) (index : ℕ) (streams : List stream_read.Stream) (word : Bor (List ℕ)) (stream : stream_read.Stream) → Streaming words index streams → drop index words ≡ word ∷ drop (index + 1) words → Some (stream_for stream) ≡ stream_of word.now → Streaming words (index + 1) (streams ++ stream ∷ [])
streaming_on words index streams word stream streaming is found =
    record {
      all =
          with_one streams stream _
          ∙ (ap (λ f. option_map (λ rest. map stream_for streams ++ rest) (option_and_then (λ stream. option_map (λ streams. stream ∷ streams) (streams_of (map (λ word. word.now) (drop (index + 1) words)))) f)) found
          ∙ (ap (λ ws. option_map (λ rest. map stream_for streams ++ rest) (streams_of (map (λ word. word.now) ws))) (sym is) ∙ streaming.all));
      many = rw (length-append streams (stream ∷ []), streaming.many) refl;
    }

pub streaming_stopped : (words : List (Bor (List ℕ))) (index : ℕ) (streams : List stream_read.Stream) (word : Bor (List ℕ)) → Streaming words index streams → drop index words ≡ word ∷ drop (index + 1) words → None ≡ stream_of word.now → None ≡ streams_of (map (λ word. word.now) words)
streaming_stopped words index streams word streaming is none =
    ap (λ f. option_map (λ rest. map stream_for streams ++ rest) (option_and_then (λ stream. option_map (λ streams. stream ∷ streams) (streams_of (map (λ word. word.now) (drop (index + 1) words)))) f)) none
    ∙ (ap (λ ws. option_map (λ rest. map stream_for streams ++ rest) (streams_of (map (λ word. word.now) ws))) (sym is) ∙ streaming.all)

pub streaming_all : (words : List (Bor (List ℕ))) (index : ℕ) (streams : List stream_read.Stream) → Streaming words index streams → drop index words ≡ [] → Some (map stream_for streams) ≡ streams_of (map (λ word. word.now) words)
streaming_all words index streams streaming is =
    ap Some (sym (append-nil (map stream_for streams)))
    ∙ (ap (λ ws. option_map (λ rest. map stream_for streams ++ rest) (streams_of (map (λ word. word.now) ws))) (sym is) ∙ streaming.all)

pub file_at : (streams : List stream_read.Stream) (k : ℕ) (found : Option stream_read.Stream) → found ≡ slice_get streams k → option_map (λ stream. (stream_for stream).file) found ≡ slice_get (map (λ (stream : Stream). stream.file) (map stream_for streams)) k
file_at [] zero found is = ap (option_map (λ stream. (stream_for stream).file)) is
file_at [] (suc k) found is = ap (option_map (λ stream. (stream_for stream).file)) is
file_at (stream ∷ streams) zero found is = ap (option_map (λ stream. (stream_for stream).file)) is
file_at (stream ∷ streams) (suc k) found is = file_at streams k found is
