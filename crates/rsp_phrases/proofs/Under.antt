-- Rules that go on the same on short texts, and rules within themselves at any depth.
use Rattle.std.proofs.Common.{◌≡◌, ℕ, zero, suc, ◌+◌, ◌≤◌, ◌<◌, List, [], ◌∷◌, ◌++◌, length, sym, subst, arith, inl, inr, Some, None}
use Rattle.rsp_phrases.specs.Languages.{Language, mapped, tied, either, optional, nothing, never, any_depth, at_most, many, listed}
use Rattle.rsp_phrases.proofs.Cuts.{left_le, right_le, right_lt}

-- what p has, q has too, and on texts of fewer than n tokens they are the same
pub record Under {T A : Type 0} (n : ℕ) (p q : Language T A) : Type 0 where
  pub full_up : (ts : List T) (v : A) → p.full ts v → q.full ts v
  pub front_up : (ts : List T) → p.front ts → q.front ts
  pub full_down : (ts : List T) (v : A) → length ts < n → q.full ts v → p.full ts v
  pub front_down : (ts : List T) → length ts < n → q.front ts → p.front ts

pub under_same : {T A : Type 0} (n : ℕ) (p : Language T A) → Under n p p
under_same n p = record { full_up = λ ts v f. f; front_up = λ ts f. f; full_down = λ ts v l f. f; front_down = λ ts l f. f }

pub under_less : {T A : Type 0} {m n : ℕ} {p q : Language T A} → m ≤ n → Under n p q → Under m p q
under_less le h = record {
  full_up = h.full_up;
  front_up = h.front_up;
  full_down = λ ts v l f. h.full_down ts v (omega (arith, l, le)) f;
  front_down = λ ts l f. h.front_down ts (omega (arith, l, le)) f;
}

pub under_never : {T A : Type 0} {q : Language T A} → q.front [] → Under 0 never q
under_never {q = q} begun = record {
  full_up = λ ts v f. absurd f;
  front_up = λ ts f. subst q.front (sym f) begun;
  full_down = λ ts v l f. let no : ⊥ = omega (arith, l) in absurd no;
  front_down = λ ts l f. let no : ⊥ = omega (arith, l) in absurd no;
}

pub under_mapped : {T A B : Type 0} {n : ℕ} {p q : Language T A} (f : A → B) → Under n p q → Under n (mapped f p) (mapped f q)
under_mapped f h = record {
  full_up = λ ts v g. record { source = g.source; spelled = h.full_up ts g.source g.spelled; is = g.is };
  front_up = h.front_up;
  full_down = λ ts v l g. record { source = g.source; spelled = h.full_down ts g.source l g.spelled; is = g.is };
  front_down = h.front_down;
}

pub under_either : {T A : Type 0} {n : ℕ} {p p' q q' : Language T A} → Under n p p' → Under n q q' → Under n (either p q) (either p' q')
under_either {p = p} {p' = p'} {q = q} {q' = q'} h k = record {
  full_up = λ ts v f. elim f [ inl a ↦ inl (h.full_up ts v a) | inr b ↦ inr (k.full_up ts v b) ];
  front_up = λ ts f. elim f [ inl a ↦ inl (h.front_up ts a) | inr b ↦ inr (k.front_up ts b) ];
  full_down = λ ts v l f. elim f [ inl a ↦ inl (h.full_down ts v l a) | inr b ↦ inr (k.full_down ts v l b) ];
  front_down = λ ts l f. elim f [ inl a ↦ inl (h.front_down ts l a) | inr b ↦ inr (k.front_down ts l b) ];
}

pub under_optional : {T A : Type 0} {n : ℕ} {p q : Language T A} → Under n p q → Under n (optional p) (optional q)
under_optional {n = n} h = under_either (under_mapped Some h) (under_same n (nothing None))

pub under_tied : {T A B : Type 0} {n : ℕ} {p p' : Language T A} {q q' : A → Language T B}
    → Under n p p' → ((a : A) → Under n (q a) (q' a)) → Under n (tied p q) (tied p' q')
under_tied {n = n} {p = p} {p' = p'} {q = q} {q' = q'} h k = record {
  full_up = λ ts v f. record { left = f.left; right = f.right; whole = f.whole; first = h.full_up f.left v.0 f.first; second = (k v.0).full_up f.right v.1 f.second };
  front_up = λ ts f. elim f [
    | inl a ↦ inl (h.front_up ts a)
    | inr b ↦ inr record { value = b.value; left = b.left; right = b.right; whole = b.whole; first = h.full_up b.left b.value b.first; second = (k b.value).front_up b.right b.second }
  ];
  full_down = λ ts v l f. record {
    left = f.left;
    right = f.right;
    whole = f.whole;
    first = h.full_down f.left v.0 (omega (arith, l, left_le ts f.left f.right f.whole)) f.first;
    second = (k v.0).full_down f.right v.1 (omega (arith, l, right_le ts f.left f.right f.whole)) f.second;
  };
  front_down = λ ts l f. elim f [
    | inl a ↦ inl (h.front_down ts l a)
    | inr b ↦ inr record {
      value = b.value;
      left = b.left;
      right = b.right;
      whole = b.whole;
      first = h.full_down b.left b.value (omega (arith, l, left_le ts b.left b.right b.whole)) b.first;
      second = (k b.value).front_down b.right (omega (arith, l, right_le ts b.left b.right b.whole)) b.second;
    }
  ];
}

shorter_behind : {T A : Type 0} (p : Language T A) (ts left right : List T) (a : A) (n : ℕ) → ((v : A) → p.full [] v → ⊥)
    → p.full left a → ts ≡ left ++ right → length ts < n + 1 → length right < n
shorter_behind p ts [] right a n void f whole l = absurd (void a f)
shorter_behind p ts (x ∷ left) right a n void f whole l = omega (arith, l, right_lt ts x left right whole)

-- behind at least one token a text is shorter
pub under_behind : {T A B : Type 0} {n : ℕ} {p : Language T A} {q q' : A → Language T B}
    → ((v : A) → p.full [] v → ⊥) → ((a : A) → Under n (q a) (q' a)) → Under (n + 1) (tied p q) (tied p q')
under_behind {n = n} {p = p} {q = q} {q' = q'} void k = record {
  full_up = λ ts v f. record { left = f.left; right = f.right; whole = f.whole; first = f.first; second = (k v.0).full_up f.right v.1 f.second };
  front_up = λ ts f. elim f [
    | inl a ↦ inl a
    | inr b ↦ inr record { value = b.value; left = b.left; right = b.right; whole = b.whole; first = b.first; second = (k b.value).front_up b.right b.second }
  ];
  full_down = λ ts v l f. record {
    left = f.left;
    right = f.right;
    whole = f.whole;
    first = f.first;
    second = (k v.0).full_down f.right v.1 (shorter_behind p ts f.left f.right v.0 n void f.first f.whole l) f.second;
  };
  front_down = λ ts l f. elim f [
    | inl a ↦ inl a
    | inr b ↦ inr record {
      value = b.value;
      left = b.left;
      right = b.right;
      whole = b.whole;
      first = b.first;
      second = (k b.value).front_down b.right (shorter_behind p ts b.left b.right b.value n void b.first b.whole l) b.second;
    }
  ];
}

pub under_any : {T A : Type 0} {n : ℕ} {p q : ℕ → Language T A} → ((d : ℕ) → Under n (p d) (q d)) → Under n (any_depth p) (any_depth q)
under_any h = record {
  full_up = λ ts v f. record { depth = f.depth; spelled = (h f.depth).full_up ts v f.spelled };
  front_up = λ ts f. record { depth = f.depth; begun = (h f.depth).front_up ts f.begun };
  full_down = λ ts v l f. record { depth = f.depth; spelled = (h f.depth).full_down ts v l f.spelled };
  front_down = λ ts l f. record { depth = f.depth; begun = (h f.depth).front_down ts l f.begun };
}

under_at_most : {T A : Type 0} {n : ℕ} {p q : Language T A} → Under n p q → (d : ℕ) → Under n (at_most p d) (at_most q d)
unfolding at_most
under_at_most {n = n} h zero = under_same n (nothing [])
under_at_most h (suc d) = under_mapped listed (under_optional (under_tied h (λ a. under_at_most h d)))

pub under_many : {T A : Type 0} {n : ℕ} {p q : Language T A} → Under n p q → Under n (many p) (many q)
under_many h = under_any (under_at_most h)
