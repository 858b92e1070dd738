-- How forms go on: many of a form is what passes at each place where it ends or goes on.
use Rattle.std.proofs.Common.{◌≡◌, ℕ, zero, suc, ◌≤◌, ◌<◌, Bool, true, false, List, [], ◌∷◌, length, refl, sym, ap, ◌∙◌, arith, Option, Some, None}
use Rattle.std.specs.Prelude.{◌==◌, ◌&&◌, ◌||◌}
use Rattle.rsp_scan.specs.declared.escaping.Escape.{Escape}
use Rattle.rsp_scan.specs.declared.escaping.Escape.TheVariants.{Begun}
use Rattle.rsp_scan.specs.declared.escaping.Escaped.{Escaped}
use Rattle.rsp_scan.specs.declared.escaping.Escaped.TheVariants.{More, Whole}
use Rattle.rsp_lex.specs.Patterns.{Form, one, ◌before◌, ◌or◌, text, maybe, times, many, behind_part, escaped, escape_of}

abbrev Test : Type 0
Test = List ℕ → Bool

-- what stands behind it is no longer than the text
pub record Keeps (p : Form) : Type 0 where
  pub on : (g h : Test) (cs : List ℕ) → ((ds : List ℕ) → length ds ≤ length cs → g ds ≡ h ds) → p g cs ≡ p h cs

-- it takes a character at least
pub record Takes (p : Form) : Type 0 where
  pub on : (g h : Test) (cs : List ℕ) → ((ds : List ℕ) → length ds < length cs → g ds ≡ h ds) → p g cs ≡ p h cs
  pub none : (g : Test) → p g [] ≡ false

pub keeps : (p : Form) → Takes p → Keeps p
keeps p t = record { on = λ g h cs same. t.on g h cs (λ ds below. same ds (omega (arith, below))) }

one_on : (t : ℕ → Bool) (g h : Test) (cs : List ℕ) → ((ds : List ℕ) → length ds < length cs → g ds ≡ h ds) → one t g cs ≡ one t h cs
one_on t g h [] same = refl
one_on t g h (c ∷ cs) same = ap (λ b. t c && b) (same cs (omega arith))

pub takes_one : (t : ℕ → Bool) → Takes (one t)
takes_one t = record { on = one_on t; none = λ g. refl }

pub takes_or : (p q : Form) → Takes p → Takes q → Takes (p or q)
takes_or p q hp hq = record {
  on = λ g h cs same. ap (λ b. b || q g cs) (hp.on g h cs same) ∙ ap (λ b. p h cs || b) (hq.on g h cs same);
  none = λ g. ap (λ b. b || q g []) (hp.none g) ∙ hq.none g;
}

pub takes_before : (p q : Form) → Takes p → Keeps q → Takes (p before q)
takes_before p q hp hq = record {
  on = λ g h cs same. hp.on (q g) (q h) cs (λ ds below. hq.on g h ds (λ es no_longer. same es (omega (arith, below, no_longer))));
  none = λ g. hp.none (q g);
}

pub keeps_text : (cs : List ℕ) → Keeps (text cs)
keeps_text [] = record { on = λ g h cs same. same cs (omega arith) }
keeps_text (c ∷ more) = record {
  on = λ g h cs same. one_on (λ d. d == c) (text more g) (text more h) cs
      (λ ds below. (keeps_text more).on g h ds (λ es no_longer. same es (omega (arith, below, no_longer))));
}

pub takes_text : (c : ℕ) (more : List ℕ) → Takes (text (c ∷ more))
takes_text c more = record {
  on = λ g h cs same. one_on (λ d. d == c) (text more g) (text more h) cs
      (λ ds below. (keeps_text more).on g h ds (λ es no_longer. same es (omega (arith, below, no_longer))));
  none = λ g. refl;
}

times_on : (p : Form) → Keeps p → (n : ℕ) (g h : Test) (cs : List ℕ) → ((ds : List ℕ) → length ds ≤ length cs → g ds ≡ h ds)
    → times n p g cs ≡ times n p h cs
times_on p hp zero g h cs same = same cs (omega arith)
times_on p hp (suc n) g h cs same =
    ap (λ b. b || p (times n p g) cs) (same cs (omega arith))
    ∙ ap (λ b. h cs || b) (hp.on (times n p g) (times n p h) cs
    (λ ds no_longer. times_on p hp n g h ds (λ es shorter. same es (omega (arith, no_longer, shorter)))))

pub keeps_many : (p : Form) → Keeps p → Keeps (many p)
keeps_many p hp = record { on = λ g h cs same. times_on p hp (length cs) g h cs same }

pub keeps_maybe : (p : Form) → Keeps p → Keeps (maybe p)
keeps_maybe p hp = record {
  on = λ g h cs same. ap (λ b. b || p g cs) (same cs (omega arith)) ∙ ap (λ b. h cs || b) (hp.on g h cs same);
}

pub takes_behind : (p q : Form) → Keeps p → ((g : Test) → g [] ≡ false → p g [] ≡ false) → Takes q → Takes (p before q)
takes_behind p q hp empty hq = record {
  on = λ g h cs same. hp.on (q g) (q h) cs (λ ds no_longer. hq.on g h ds (λ es below. same es (omega (arith, below, no_longer))));
  none = λ g. empty (q g) (hq.none g);
}

part_on : (test : ℕ → Bool) (m n : Escape → Bool) (a b : Bool) (o : Option Escaped) → ((e : Escape) → m e ≡ n e) → a ≡ b
    → behind_part test m a o ≡ behind_part test n b o
part_on test m n a b None more rest = refl
part_on test m n a b (Some (More e)) more rest = more e
part_on test m n a b (Some (Whole c)) more rest = ap (λ x. test c && x) rest

module _ (step : Escape → ℕ → Option Escaped) (test : ℕ → Bool) where
  escaped_on : (g h : Test) (cs : List ℕ) → ((ds : List ℕ) → length ds < length cs → g ds ≡ h ds) → (e : Escape)
      → escaped step test e g cs ≡ escaped step test e h cs
  escaped_on g h [] same e = refl
  escaped_on g h (c ∷ cs) same e =
      part_on test (λ next. escaped step test next g cs) (λ next. escaped step test next h cs) (g cs) (h cs) (step e c)
      (λ next. escaped_on g h cs (λ ds below. same ds (omega (arith, below))) next) (same cs (omega arith))

  pub takes_escape : Takes (escape_of step test)
  takes_escape =
      takes_before (text (92 ∷ [])) (escaped step test Begun) (takes_text 92 [])
      (record { on = λ g h cs same. escaped_on g h cs (λ ds below. same ds (omega (arith, below))) Begun })

-- ---- many of a form, by what goes on at each place

module _ (p : Form) (takes : Takes p) (k f : Test) (goes : (cs : List ℕ) → f cs ≡ (k cs || p f cs)) where
  or_false : (b : Bool) → (b || false) ≡ b
  or_false true = refl
  or_false false = refl

  loop : (n : ℕ) (cs : List ℕ) → length cs ≤ n → times n p k cs ≡ f cs
  loop zero [] h = sym (goes [] ∙ ap (λ b. k [] || b) (takes.none f) ∙ or_false (k []))
  loop zero (c ∷ cs) h = let no : ⊥ = omega (arith, h) in absurd no
  loop (suc n) cs h =
      ap (λ b. k cs || b) (takes.on (times n p k) f cs (λ ds below. loop n ds (omega (arith, below, h)))) ∙ sym (goes cs)

  pub many_is : (cs : List ℕ) → f cs ≡ many p k cs
  many_is cs = sym (loop (length cs) cs (omega arith))
