-- Kinds that begin a rule.
use Rattle.std.proofs.Common.{◌≡◌, ℕ, Bool, true, false, List, [], ◌∷◌, refl, ◌||◌, ◌==◌, sym, true≢false}
use Rattle.rsp_phrases.specs.Languages.{has}
use Rattle.rsp_phrases.specs.Readers.{starts}

past : (b c : Bool) → (b || false) ≡ false → (b || c) ≡ c
past true c h = absurd (true≢false h)
past false c h = refl

-- a kind that isn't next changes nothing
pub starts_past : {T : Type 0} (kind : T → ℕ) (k : ℕ) (ks : List ℕ) (ts : List T)
    → starts kind (k ∷ []) ts ≡ false → starts kind ks ts ≡ starts kind (k ∷ ks) ts
starts_past kind k ks [] h = refl
starts_past kind k ks (x ∷ ts) h = sym (past (k == kind x) (has ks (kind x)) h)
