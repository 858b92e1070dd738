-- What the windows of live queries need.
use Rattle.std.proofs.Common.{◌≡◌, ℕ, zero, suc, ◌||◌, Bool, true, false, List, [], ◌∷◌, remove, refl, sym, ◌∙◌}
use Rattle.std.proofs.lemmas.List.Folds.{list_any-append}
use Rattle.rsp_scope.specs.Contents.{Numbered}
use Rattle.rsp_scope.specs.Needed.{is_needed, is_needed_by}
use Rattle.rsp_scope.proofs.Needs.{fewer_need_less}
use Rattle.rsp_engine.specs.Contents.{watches}
use Rattle.rsp_engine.specs.Kept.{watches_of}
use Rattle.rsp_engine.specs.World.{Registration}

-- without one of the queries no more is needed
pub less_needed : (queries : List Registration) (place n : ℕ) (entry : Numbered) → is_needed n (watches_of (remove queries place)) entry ≡ true → is_needed n (watches_of queries) entry ≡ true
less_needed [] zero n entry needed = needed
less_needed [] (suc place) n entry needed = needed
less_needed (query ∷ queries) zero n entry needed = fewer_need_less [] (watches query.first query.reading.windows) (watches_of queries) n entry needed
less_needed (query ∷ queries) (suc place) n entry needed =
    list_any-append (is_needed_by n entry) (watches query.first query.reading.windows) (watches_of queries)
    ∙ by (is_needed n (watches query.first query.reading.windows) entry) (is_needed n (watches_of (remove queries place)) entry) (is_needed n (watches_of queries) entry) (less_needed queries place n entry)
    (sym (list_any-append (is_needed_by n entry) (watches query.first query.reading.windows) (watches_of (remove queries place))) ∙ needed)
  where
    by : (a b c : Bool) → (b ≡ true → c ≡ true) → (a || b) ≡ true → (a || c) ≡ true
    by true b c h is = refl
    by false b c h is = h is
