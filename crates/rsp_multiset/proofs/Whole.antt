-- Laws of the product of integers that std doesn't have.
use Rattle.std.proofs.Common.{◌≡◌, ℤ, pos, ◌+ℤ◌, ◌*ℤ◌, neg_ℤ, sym, ap, subst, ◌∙◌, arith}
use Rattle.std.proofs.lemmas.Int.{ints}
use Rattle.std.proofs.Math.IntN.{ℤ_ind, suc_ℤ, pred_ℤ, +ℤ_one, -ℤ_one, suc_ℤ-+ℤ, pred_ℤ-+ℤ, suc_ℤ-*ℤ, pred_ℤ-*ℤ, zero-*ℤ, *ℤ_comm, +ℤ_idl}

-- what holds of 0 and goes on to both neighbours holds of each integer
pub by_neighbours : (P : ℤ → Type 0) → P (pos 0) → ((m : ℤ) → P m → P (suc_ℤ m)) → ((m : ℤ) → P m → P (pred_ℤ m)) → (m : ℤ) → P m
by_neighbours P zero up down =
    ℤ_ind P zero (λ n h. subst P (sym (+ℤ_one (pos n))) (up (pos n) h)) (λ n h. subst P (sym (-ℤ_one (neg_ℤ (pos n)))) (down (neg_ℤ (pos n)) h))

pub +ℤ-*ℤ : (m n k : ℤ) → (m +ℤ n) *ℤ k ≡ m *ℤ k +ℤ n *ℤ k
+ℤ-*ℤ m n k = by_neighbours (λ m. (m +ℤ n) *ℤ k ≡ m *ℤ k +ℤ n *ℤ k) at_zero at_suc at_pred m
  where
    at_zero : (pos 0 +ℤ n) *ℤ k ≡ pos 0 *ℤ k +ℤ n *ℤ k
    at_zero = ap (λ x. x *ℤ k) (+ℤ_idl n) ∙ (let z = zero-*ℤ k in omega (arith, ints))

    at_suc : (m : ℤ) → (m +ℤ n) *ℤ k ≡ m *ℤ k +ℤ n *ℤ k → (suc_ℤ m +ℤ n) *ℤ k ≡ suc_ℤ m *ℤ k +ℤ n *ℤ k
    at_suc m h =
        let a = ap (λ x. x *ℤ k) (suc_ℤ-+ℤ m n) ∙ suc_ℤ-*ℤ (m +ℤ n) k in
        let b = suc_ℤ-*ℤ m k in
        omega (arith, ints)

    at_pred : (m : ℤ) → (m +ℤ n) *ℤ k ≡ m *ℤ k +ℤ n *ℤ k → (pred_ℤ m +ℤ n) *ℤ k ≡ pred_ℤ m *ℤ k +ℤ n *ℤ k
    at_pred m h =
        let a = ap (λ x. x *ℤ k) (pred_ℤ-+ℤ m n) ∙ pred_ℤ-*ℤ (m +ℤ n) k in
        let b = pred_ℤ-*ℤ m k in
        omega (arith, ints)

pub *ℤ-+ℤ : (m n k : ℤ) → m *ℤ (n +ℤ k) ≡ m *ℤ n +ℤ m *ℤ k
*ℤ-+ℤ m n k = *ℤ_comm m (n +ℤ k) ∙ +ℤ-*ℤ n k m ∙ (λ i. *ℤ_comm n m i +ℤ *ℤ_comm k m i)

pub neg-*ℤ : (m k : ℤ) → neg_ℤ m *ℤ k ≡ neg_ℤ (m *ℤ k)
neg-*ℤ m k =
    let a = +ℤ-*ℤ (neg_ℤ m) m k in
    let e : neg_ℤ m +ℤ m ≡ pos 0 = omega (arith, ints) in
    let b = ap (λ x. x *ℤ k) e ∙ zero-*ℤ k in
    omega (arith, ints)

pub *ℤ-neg : (m k : ℤ) → m *ℤ neg_ℤ k ≡ neg_ℤ (m *ℤ k)
*ℤ-neg m k = *ℤ_comm m (neg_ℤ k) ∙ neg-*ℤ k m ∙ ap neg_ℤ (*ℤ_comm k m)

pub one-*ℤ : (k : ℤ) → pos 1 *ℤ k ≡ k
one-*ℤ k = suc_ℤ-*ℤ (pos 0) k ∙ (let z = zero-*ℤ k in omega (arith, ints))

pub times-one : (k : ℤ) → k *ℤ pos 1 ≡ k
times-one k = *ℤ_comm k (pos 1) ∙ one-*ℤ k

pub *ℤ_assoc : (m n k : ℤ) → (m *ℤ n) *ℤ k ≡ m *ℤ (n *ℤ k)
*ℤ_assoc m n k = by_neighbours (λ m. (m *ℤ n) *ℤ k ≡ m *ℤ (n *ℤ k)) at_zero at_suc at_pred m
  where
    at_zero : (pos 0 *ℤ n) *ℤ k ≡ pos 0 *ℤ (n *ℤ k)
    at_zero = ap (λ x. x *ℤ k) (zero-*ℤ n) ∙ zero-*ℤ k ∙ sym (zero-*ℤ (n *ℤ k))

    at_suc : (m : ℤ) → (m *ℤ n) *ℤ k ≡ m *ℤ (n *ℤ k) → (suc_ℤ m *ℤ n) *ℤ k ≡ suc_ℤ m *ℤ (n *ℤ k)
    at_suc m h =
        let a = ap (λ x. x *ℤ k) (suc_ℤ-*ℤ m n) ∙ +ℤ-*ℤ (m *ℤ n) n k in
        let b = suc_ℤ-*ℤ m (n *ℤ k) in
        omega (arith, ints)

    at_pred : (m : ℤ) → (m *ℤ n) *ℤ k ≡ m *ℤ (n *ℤ k) → (pred_ℤ m *ℤ n) *ℤ k ≡ pred_ℤ m *ℤ (n *ℤ k)
    at_pred m h =
        let a = ap (λ x. x *ℤ k) (pred_ℤ-*ℤ m n) ∙ +ℤ-*ℤ (m *ℤ n) (neg_ℤ n) k in
        let b = pred_ℤ-*ℤ m (n *ℤ k) in
        let c = neg-*ℤ n k in
        omega (arith, ints)
