-- A stable sort of rows by their order gives `in_order`.
use Rattle.std.proofs.Common.{◌≡◌, Bool, false, cond, List, [], ◌∷◌, refl, sym, ap, ◌∙◌}
use Rattle.std.proofs.lemmas.List.MinMax.{ranks_by}
use Rattle.std.specs.Cmp.{IsStrictWeakOrder}
use Rattle.std.specs.Cmp.Lexicographic.{slice_cmp}
use Rattle.std.specs.List.Sorted.{IsSortedBy, IsSortedByKey, IsStableBy}
use Rattle.std.specs.Ordering.{is_lt, is_gt, nat_cmp, ordering_reverse, ordering_then}
use Rattle.std.specs.declared.cmp.Ordering.{Ordering}
use Rattle.std.specs.declared.cmp.Ordering.TheVariants.{Less, Equal, Greater}
use Rattle.rsp_terms.specs.declared.term.Term.{Term}
use Rattle.rsp_multiset.specs.Rows.{Cells}
use Rattle.rsp_streams_out.proofs.Sorted.{put, put_all, put_all-from_sort}
use Rattle.rsp_streams_out.specs.RowOrder.{row_order_total}
use Rattle.rsp_streams_out.specs.Rows.{in_order, put_in, row_order, row_text}

abbrev pub before : Cells Term → Cells Term → Bool
before row other = is_lt (row_order row other)

pub ranks : IsStrictWeakOrder before
ranks = ranks_by row_order_total (λ row. row)

pub is_gt-reverse : (o : Ordering) → is_gt (ordering_reverse o) ≡ is_lt o
is_gt-reverse Less = refl
is_gt-reverse Equal = refl
is_gt-reverse Greater = refl

behind_is : (row other : Cells Term) → is_gt (row_order row other) ≡ before other row
behind_is row other = ap is_gt (row_order_total.antisymm row other) ∙ is_gt-reverse (row_order other row)

put_in_is : (row : Cells Term) (rows : List (Cells Term)) → put_in row rows ≡ put before ranks row rows
put_in_is row [] = refl
put_in_is row (first ∷ rows) = λ i. cond (behind_is row first i) (first ∷ put_in_is row rows i) (row ∷ first ∷ rows)

pub in_order_is : (rows : List (Cells Term)) → in_order rows ≡ put_all before ranks rows
in_order_is [] = refl
in_order_is (row ∷ rows) = put_in_is row (in_order rows) ∙ ap (put before ranks row) (in_order_is rows)

pub in_order-from_sort : (rows out : List (Cells Term)) → IsSortedBy before out → IsStableBy before rows out → out ≡ in_order rows
in_order-from_sort rows out sorted stable = put_all-from_sort before ranks rows out sorted stable ∙ sym (in_order_is rows)

-- ---- their texts are in order too

first_not_less : (first second : Ordering) → is_lt (ordering_then first second) ≡ false → is_lt first ≡ false
first_not_less Less second not = not
first_not_less Equal second not = refl
first_not_less Greater second not = refl

pub texts_sorted : (rows : List (Cells Term)) → IsSortedBy before rows → IsSortedByKey row_text (slice_cmp nat_cmp) rows
texts_sorted rows sorted = λ k d low high. first_not_less _ _ (sorted k d low high)
