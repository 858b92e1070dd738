-- The least and the greatest under a total order that is equal at one element alone: the order of their arguments has no part.
use Rattle.std.specs.Prelude.{◌≡◌, Bool, true, false, cond, refl}
use Rattle.std.specs.Cmp.{IsTotalOrder, tied_itself, upto}
use Rattle.std.specs.Ordering.{ord_min, ord_max, ordering_reverse, is_lt, is_gt}
use Rattle.std.specs.declared.cmp.Ordering.{Ordering}
use Rattle.std.specs.declared.cmp.Ordering.TheVariants.{Less, Equal, Greater}
use Rattle.std.proofs.Common.{ap, sym, ◌∙◌, true≢false}

-- f gives a bound of its two arguments that each other bound bounds
record IsBound {A : Type 0} (Below : A → A → Type 0) (f : A → A → A) : Type 0 where
  left : (a b : A) → Below (f a b) a
  right : (a b : A) → Below (f a b) b
  meets : (c a b : A) → Below c a → Below c b → Below c (f a b)
  chains : (a b c : A) → Below a b → Below b c → Below a c
  one : (a b : A) → Below a b → Below b a → a ≡ b

module _ {A : Type 0} {Below : A → A → Type 0} {f : A → A → A} (bound : IsBound Below f) where
  commutes : (a b : A) → f a b ≡ f b a
  commutes a b =
      bound.one (f a b) (f b a) (bound.meets (f a b) b a (bound.right a b) (bound.left a b))
      (bound.meets (f b a) a b (bound.right b a) (bound.left b a))

  half : (a x y : A) → Below (f (f a x) y) (f (f a y) x)
  half a x y =
      let least = f (f a x) y in
      let first = bound.chains least (f a x) a (bound.left (f a x) y) (bound.left a x) in
      let second = bound.chains least (f a x) x (bound.left (f a x) y) (bound.right a x) in
      bound.meets least (f a y) x (bound.meets least a y first (bound.right (f a x) y)) second

  turns : (a x y : A) → f (f a x) y ≡ f (f a y) x
  turns a x y = bound.one (f (f a x) y) (f (f a y) x) (half a x y) (half a y x)

chosen : {A : Type 0} (P : A → Type 0) (first : Bool) (a b : A) → P a → P b → P (cond first a b)
chosen P true a b of_a of_b = of_a
chosen P false a b of_a of_b = of_b

module _ {A : Type 0} {R : A → A → Ordering} (total : IsTotalOrder R) (same : (a b : A) → R a b ≡ Equal → a ≡ b) where
  turned_by : (a b : A) (r : Ordering) → R b a ≡ r → R a b ≡ ordering_reverse r
  turned_by a b r is = total.antisymm a b ∙ ap ordering_reverse is

  one_by : (a b : A) (r : Ordering) → R a b ≡ r → is_gt (R a b) ≡ false → is_gt (R b a) ≡ false → a ≡ b
  one_by a b Less is first second = absurd (true≢false (sym (ap is_gt (turned_by b a Less is)) ∙ second))
  one_by a b Equal is first second = same a b is
  one_by a b Greater is first second = absurd (true≢false (sym (ap is_gt is) ∙ first))

  is_one : (a b : A) → is_gt (R a b) ≡ false → is_gt (R b a) ≡ false → a ≡ b
  is_one a b = one_by a b (R a b) refl

  itself : (a : A) → is_gt (R a a) ≡ false
  itself a = ap is_gt (tied_itself total a)

  -- the least
  min_left : (a b : A) (r : Ordering) → R b a ≡ r → is_gt (R (cond (is_lt r) b a) a) ≡ false
  min_left a b Less is = ap is_gt is
  min_left a b Equal is = itself a
  min_left a b Greater is = itself a

  min_right : (a b : A) (r : Ordering) → R b a ≡ r → is_gt (R (cond (is_lt r) b a) b) ≡ false
  min_right a b Less is = itself b
  min_right a b Equal is = ap is_gt (turned_by a b Equal is)
  min_right a b Greater is = ap is_gt (turned_by a b Greater is)

  least : IsBound (λ a b. is_gt (R a b) ≡ false) (ord_min R)
  least = record {
    left = λ a b. min_left a b (R b a) refl;
    right = λ a b. min_right a b (R b a) refl;
    meets = λ c a b of_a of_b. chosen (λ z. is_gt (R c z) ≡ false) (is_lt (R b a)) b a of_b of_a;
    chains = λ a b c first second. upto total a b c first second;
    one = λ a b first second. is_one a b first second;
  }

  pub min_commutes : (a b : A) → ord_min R a b ≡ ord_min R b a
  min_commutes = commutes least

  pub min_turns : (a x y : A) → ord_min R (ord_min R a x) y ≡ ord_min R (ord_min R a y) x
  min_turns = turns least

  -- the greatest
  max_left : (a b : A) (r : Ordering) → R b a ≡ r → is_gt (R a (cond (is_lt r) a b)) ≡ false
  max_left a b Less is = itself a
  max_left a b Equal is = ap is_gt (turned_by a b Equal is)
  max_left a b Greater is = ap is_gt (turned_by a b Greater is)

  max_right : (a b : A) (r : Ordering) → R b a ≡ r → is_gt (R b (cond (is_lt r) a b)) ≡ false
  max_right a b Less is = ap is_gt is
  max_right a b Equal is = itself b
  max_right a b Greater is = itself b

  greatest : IsBound (λ a b. is_gt (R b a) ≡ false) (ord_max R)
  greatest = record {
    left = λ a b. max_left a b (R b a) refl;
    right = λ a b. max_right a b (R b a) refl;
    meets = λ c a b of_a of_b. chosen (λ z. is_gt (R z c) ≡ false) (is_lt (R b a)) a b of_a of_b;
    chains = λ a b c first second. upto total c b a second first;
    one = λ a b first second. is_one a b second first;
  }

  pub max_commutes : (a b : A) → ord_max R a b ≡ ord_max R b a
  max_commutes = commutes greatest

  pub max_turns : (a x y : A) → ord_max R (ord_max R a x) y ≡ ord_max R (ord_max R a y) x
  max_turns = turns greatest
