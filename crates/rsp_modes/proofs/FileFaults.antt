-- The first fault of a file, where its bytes can be a text and where they can't.
use Rattle.std.proofs.Common.{◌≡◌, ℕ, true, false, None, Some, List, length, nat_lt, refl}
use Rattle.std.specs.Str.{is_utf8}
use Rattle.std.specs.Str.Lossy.{utf8_valid_len}
use Rattle.rsp_spec.specs.Limits.{most_text_bytes}
use Rattle.rsp_syntax.specs.declared.fault.SyntaxFault.TheVariants.{BadToken}
use Rattle.rsp_engine.specs.declared.refused.TextFault.{TextFault}
use Rattle.rsp_engine.specs.declared.refused.TextFault.TheVariants.{Syntax}
use Rattle.rsp_engine.specs.Refusals.{text_fault}
use Rattle.rsp_modes.specs.Checks.{bytes_fault, file_fault}

pub no_fault_of_bytes : (bytes : List ℕ) → nat_lt most_text_bytes (length bytes) ≡ false → is_utf8 bytes ≡ true → bytes_fault bytes ≡ None
no_fault_of_bytes bytes short text = rw (short, text) refl

pub fault_of_bytes : (bytes : List ℕ) (place : ℕ) → nat_lt most_text_bytes (length bytes) ≡ false → is_utf8 bytes ≡ false → place ≡ utf8_valid_len bytes → bytes_fault bytes ≡ Some (Syntax (BadToken place))
fault_of_bytes bytes place short text is = rw (short, text, is) refl

pub fault_of_text : (bytes : List ℕ) → bytes_fault bytes ≡ None → file_fault bytes ≡ text_fault bytes
fault_of_text bytes none = rw none refl

pub fault_of_file : (bytes : List ℕ) (fault : TextFault) → bytes_fault bytes ≡ Some fault → file_fault bytes ≡ Some fault
fault_of_file bytes fault is = rw is refl
