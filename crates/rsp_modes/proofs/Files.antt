-- A file that is read behind its pick.
use Rattle.std.proofs.Common.{◌≡◌, ℕ, ◌+◌, ◌^◌, ◌<◌, ◌≤◌, List, ◌++◌, length, length-append, Result, Ok, Err, Option, Some, None, IfSome, Vec, sym, ◌∙◌, ap, append-nil, true≢false, arith}
use Rattle.std.specs.Prelude.{IsSomeAnd}
use Rattle.std.specs.Io.KnownBytes.{Consumes, IsAtEnd}
use Rattle.rsp_io.specs.Files.{NamedFile, file_named}
use Rattle.rsp_io.specs.Reading.{given_after}
use Rattle.rsp_spec.specs.Limits.{most_file_bytes}
use Rattle.rsp_modes.specs.Shelves.{ShelfSeen}
use Rattle.rsp_modes.specs.Readings.{Reads, ReadsPicked, Takes, TakesTooMany}
use Rattle.rsp_modes.specs.declared.reading.Unread.{Unread}
use Rattle.rsp_modes.specs.declared.reading.Unread.TheVariants.{Memory, Fault, TooLong}
use Rattle.rsp_modes.proofs.Consuming.{consumed_more}

given_all : (before given n : ℕ) → before ≡ given → given ≤ most_file_bytes → n ≤ 2 ^ 14 → given_after before n ≡ given + n
given_all before given n is short low = omega (arith, is, short, low)

-- a piece more than the limit allows
pub takes_too_many : (before mid now : ShelfSeen) (taken piece : List ℕ) (n : ℕ) → Takes before mid taken → n ≡ length piece → n ≤ 2 ^ 14 → Consumes mid.source.left now.source.left piece → now.source.given ≡ given_after mid.source.given n → most_file_bytes < length taken + n → now.source.faults ≡ mid.source.faults → TakesTooMany before now
takes_too_many before mid now taken piece n so_far size low consumed given past faultless =
    record {
      bytes = taken ++ piece;
      left = consumed_more before.source.left mid.source.left now.source.left taken piece so_far.left consumed;
      given = rw (length-append taken piece, ← size) (given ∙ given_all mid.source.given (length taken) n so_far.given so_far.short low);
      long = rw (length-append taken piece, ← size) past;
      faultless = faultless ∙ so_far.faultless;
    }

-- where files are told, the bytes taken are those of the file that was picked, or its front
whole_file : (files : Option (List (List ℕ × List ℕ))) (left rest : Option (List ℕ)) (name bytes : List ℕ) → NamedFile files name left → Consumes left rest bytes → IsAtEnd rest → IfSome files (λ files. file_named name files ≡ Some bytes)
whole_file None left rest name bytes named taken at_end = tt
whole_file (Some files) None rest name bytes named taken at_end = absurd (true≢false (sym (rw (← named.1) at named.0)))
whole_file (Some files) (Some left) None name bytes named taken at_end = absurd taken
whole_file (Some files) (Some left) (Some rest) name bytes named taken at_end =
    sym named.1 ∙ ap (λ all. Some all) (taken ∙ (ap (λ rest. bytes ++ rest) at_end ∙ append-nil bytes))

longer : (all bytes rest : List ℕ) → all ≡ bytes ++ rest → most_file_bytes < length bytes → most_file_bytes < length all
longer all bytes rest is long = rw (is, length-append bytes rest) (omega (arith, long))

long_file : (files : Option (List (List ℕ × List ℕ))) (left rest : Option (List ℕ)) (name bytes : List ℕ) → NamedFile files name left → Consumes left rest bytes → most_file_bytes < length bytes → IfSome files (λ files. IsSomeAnd (file_named name files) (λ file. most_file_bytes < length file))
long_file None left rest name bytes named taken long = tt
long_file (Some files) None rest name bytes named taken long = absurd (true≢false (sym (rw (← named.1) at named.0)))
long_file (Some files) (Some left) None name bytes named taken long = absurd taken
long_file (Some files) (Some left) (Some rest) name bytes named taken long = rw (← named.1) (longer left bytes rest taken long)

pub picked_reads : {A : Type 0} (before mid now : ShelfSeen) (name : List ℕ) (result : Result (Vec ℕ A) Unread) → NamedFile before.files name mid.source.left → mid.source.faults ≡ before.source.faults → mid.source.sure ≡ before.source.sure → mid.files ≡ before.files → ReadsPicked mid now result → Reads before now name result
picked_reads before mid now name (Ok bytes) named faultless sure files read =
    record {
      file = whole_file before.files mid.source.left now.source.left name bytes.items named read.0.left read.1;
      at_end = read.1;
      given = read.0.given;
      short = read.0.short;
      faultless = read.0.faultless ∙ faultless;
      sure = read.0.sure ∙ sure;
      files = read.0.files ∙ files;
    }
picked_reads before mid now name (Err Memory) named faultless sure files read =
    record { faultless = read.faultless ∙ faultless; short = read.short }
picked_reads before mid now name (Err Fault) named faultless sure files read =
    record {
      rose = rw faultless at read.rose;
      missing = λ is_sure. absurd (read.unsure (sure ∙ is_sure));
      short = read.short;
    }
picked_reads before mid now name (Err TooLong) named faultless sure files read =
    record {
      long = rw read.given read.long;
      file = long_file before.files mid.source.left now.source.left name read.bytes named read.left read.long;
      faultless = read.faultless ∙ faultless;
    }
