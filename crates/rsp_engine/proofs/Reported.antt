-- What a live query reports over the facts for which its answer then stands.
use Rattle.std.proofs.Common.{◌≡◌, ℕ, Bool, true, false, List, filter, refl, sym, subst, ap, ◌∙◌, map}
use Rattle.rsp_terms.specs.declared.statement.Fact.{Fact}
use Rattle.rsp_terms.specs.Same.{fact_same}
use Rattle.rsp_algebra.specs.Nodes.{Node}
use Rattle.rsp_algebra.specs.Meanings.{node_of}
use Rattle.rsp_algebra.specs.Solutions.{eval}
use Rattle.rsp_algebra.specs.Overfull.{overfull}
use Rattle.rsp_algebra.specs.Reading.{reads}
use Rattle.rsp_algebra.proofs.FactsRead.{eval-read, overfull-read}
use Rattle.rsp_algebra.proofs.SameFacts.{SameFacts, same_overfull}
use Rattle.rsp_terms.specs.declared.term.Term.{Term}
use Rattle.rsp_multiset.specs.Rows.{Cells}
use Rattle.rsp_multiset.specs.Weights.{only}
use Rattle.rsp_scope.specs.Kept.{Kept}
use Rattle.rsp_scope.specs.Logged.{Log}
use Rattle.rsp_scope.proofs.Takings.{times-filter}
use Rattle.rsp_streams_out.specs.Streams.{reported}
use Rattle.rsp_engine.specs.declared.live_query.LiveQuery.{LiveQuery}
use Rattle.rsp_engine.specs.declared.report.Outcome.{Outcome}
use Rattle.rsp_engine.specs.declared.report.Outcome.TheVariants as outcomes
use Rattle.rsp_engine.specs.Inside.{Answers, live_of, undated}
use Rattle.rsp_engine.specs.Reports.{cells_at}
use Rattle.rsp_engine.specs.Passing.{IsOutcomeOver, IsReported}
use Rattle.rsp_engine.specs.Stands.{Behind, is_read}

module _ {A : Type 0} (node : A → Node) (width : A → ℕ) (facts : A → List Fact) (spent : A → Bool) (live : LiveQuery A)
    (answers : Answers node width facts spent live) (now held : List Fact) (held_now : SameFacts held (filter (is_read (live_of facts live)) now)) where
  abbrev tree : Node
  tree = node_of live.query.value.tree

  -- what the tree reads
  abbrev read : List Fact → List Fact
  read = filter (reads tree)

  held_as : (seen : List Fact) → SameFacts now seen → SameFacts held (read seen)
  held_as seen alike q = held_now q ∙ (times-filter fact_same (reads tree) now q ∙ (ap (only (reads tree q)) (alike q) ∙ sym (times-filter fact_same (reads tree) seen q)))

  -- whether the query is overfull over the facts that its answer stands for
  now_full : (seen : List Fact) → SameFacts now seen → (b : Bool)
      → overfull (width live.answer) (node live.answer) held ≡ b
      → overfull live.query.value.width (node_of live.query.value.tree) seen ≡ b
  now_full seen alike b full =
      sym (overfull-read live.query.value.width (reads tree) tree (λ fact is. is) seen)
      ∙ subst (λ w. overfull w tree (read seen) ≡ b) answers.width_is
      (subst (λ n. overfull (width live.answer) n (read seen) ≡ b) answers.node_is
      (sym (same_overfull (width live.answer) (node live.answer) held (read seen) (held_as seen alike)) ∙ full))

  pub overfull_outcome : overfull (width live.answer) (node live.answer) held ≡ true → IsOutcomeOver outcomes.Overfull (live_of facts live) now
  overfull_outcome full seen preceding alike precedes = let over = now_full seen alike true full in rw over refl

  pub rows_outcome : (rows : List (Cells Term)) → overfull (width live.answer) (node live.answer) held ≡ false
      → ((seen : List Fact) (preceding : List (Cells Term)) → SameFacts held seen
      → Behind live.reported (map (cells_at live.query.value.shown) (eval (width live.answer) (node live.answer) (facts live.answer))) preceding
      → rows ≡ reported live.operator preceding (map (cells_at live.query.value.shown) (eval (width live.answer) (node live.answer) seen)))
      → IsOutcomeOver (outcomes.Rows rows) (live_of facts live) now
  rows_outcome rows full gives seen preceding alike precedes =
      let fits = now_full seen alike false full in
      let by_width : Behind live.reported (map (cells_at live.query.value.shown) (eval (width live.answer) (node_of live.query.value.tree) (facts live.answer))) preceding =
      subst (λ w. Behind live.reported (map (cells_at live.query.value.shown) (eval w (node_of live.query.value.tree) (facts live.answer))) preceding) (sym answers.width_is) precedes in
      let by_node : Behind live.reported (map (cells_at live.query.value.shown) (eval (width live.answer) (node live.answer) (facts live.answer))) preceding =
      subst (λ n. Behind live.reported (map (cells_at live.query.value.shown) (eval (width live.answer) n (facts live.answer))) preceding) (sym answers.node_is) by_width in
      let of_width = subst (λ w. rows ≡ (reported live.operator preceding (map (cells_at live.query.value.shown) (eval w (node live.answer) (read seen))))) answers.width_is (gives (read seen) preceding (held_as seen alike) by_node) in
      let of_node = subst (λ n. rows ≡ (reported live.operator preceding (map (cells_at live.query.value.shown) (eval live.query.value.width n (read seen))))) answers.node_is of_width in
      let of_all = of_node ∙ ap (λ solutions. reported live.operator preceding (map (cells_at live.query.value.shown) solutions)) (eval-read live.query.value.width (reads tree) tree (λ fact is. is) seen) in
      rw fits (ap outcomes.Rows of_all)

-- ---- a report doesn't depend on when its query is due next

module _ {A : Type 0} (node : A → Node) (width : A → ℕ) (facts : A → List Fact) (spent : A → Bool)
    (kept : Kept) (stored : List Fact) (log : Log) (t : ℕ) (live : LiveQuery A) (given : Outcome) where
  abbrev Was : LiveQuery A → Type 0
  Was new = IsReported node width facts spent kept stored log t live new given

  without_date : (new : LiveQuery A) → Was new → Was (undated new)
  without_date new was = record {
    outcome = was.outcome;
    same = was.same;
    watched = was.watched;
    windows = was.windows;
    at = was.at;
    told = was.told;
    answers = λ rows.
        let answers = was.answers rows in
        record { node_is = answers.node_is; width_is = answers.width_is; ready = answers.ready; set = answers.set };
    follows = was.follows;
  }

  with_date : (new : LiveQuery A) → Was (undated new) → Was new
  with_date new was = record {
    outcome = was.outcome;
    same = was.same;
    watched = was.watched;
    windows = was.windows;
    at = was.at;
    told = was.told;
    answers = λ rows.
        let answers = was.answers rows in
        record { node_is = answers.node_is; width_is = answers.width_is; ready = answers.ready; set = answers.set };
    follows = was.follows;
  }

  pub reported_dated : (one new : LiveQuery A) → undated new ≡ undated one → Was one → Was new
  reported_dated one new same was = with_date new (subst Was (sym same) (without_date one was))
