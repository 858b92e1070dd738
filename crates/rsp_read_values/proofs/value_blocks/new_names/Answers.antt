use Rattle.std.proofs.Common.{rules, ◌≡◌, ◌+◌, ◌∷◌, [], ◌∙◌, ap, sym, subst, drop, length, length-append, reverse, true, false, Ok, drop_of_length-le}
use Rattle.std.proofs.lemmas.List.{at_drop_more}
use Rattle.std.specs.Str.{bytes_eq}
use Rattle.indexmap.specs.IndexSet.{insert_key}
use Rattle.rsp_phrases.specs.Gathering.{gathered, as_read}
use Rattle.rsp_phrases.specs.Readers.{distinct_read}
use Rattle.rsp_written.specs.Grammar.{name_if_variable}
use Rattle.rsp_written.specs.TripleReadings.{columns_read}
use Rattle.rsp_read_values.specs.Rows.{is_new}
use Rattle.rsp_read_values.proofs.NewNames.{name_inserted, name_more_at, name_old_at, name_end_at}
use Rattle.rsp_read_values.proofs.value_blocks.new_names.Goals as goal

pub returns-then-not-is_new_name-clause-read : goal.returns-then-not-is_new_name-clause-read
returns-then-not-is_new_name-clause-read c =
    let next =
    at_drop_more (λ xs. xs) c.args.tokens.now c.loop-said.said-index c.said-item.result c.loop-said-test.true
    ∙ ap (λ x. x ∷ drop (c.loop-said.said-index + 1) c.args.tokens.now) (sym c.said-item.is) in
    let old : is_new (reverse c.loop-said.names.keys) (name_if_variable c.said-item.result) ≡ false = search rules in
    name_old_at c.loop-said.names.keys c.said-item.result _ _ _ next old c.loop-said.invariant.1
    ∙ ap (λ n. Ok (c.loop-said.names.keys, drop n c.args.tokens.now)) (sym c.loop-said.invariant.0)

pub loop-said-preserved : goal.loop-said-preserved
loop-said-preserved c =
    let next =
    at_drop_more (λ xs. xs) c.args.tokens.now c.loop-said.said-index c.said-item.result c.loop-said-test.true
    ∙ ap (λ x. x ∷ drop (c.loop-said.said-index + 1) c.args.tokens.now) (sym c.said-item.is) in
    let new : is_new (reverse c.loop-said.names.keys) (name_if_variable c.said-item.result) ≡ true = search rules in
    let put : c.insert.new.self.keys ≡ insert_key bytes_eq c.loop-said.names.keys c.said-item.result.text = search rules in
    let pushed = put ∙ name_inserted c.loop-said.names.keys c.said-item.result new in (
      ap length pushed ∙ (length-append c.loop-said.names.keys (c.said-item.result.text ∷ []) ∙ ap (λ n. n + 1) c.loop-said.invariant.0),
      subst (λ names. gathered as_read names (distinct_read bytes_eq name_if_variable (reverse names) (drop (c.loop-said.said-index + 1) c.args.tokens.now)) ≡ columns_read c.args.tokens.now)
          (sym pushed) (name_more_at c.loop-said.names.keys c.said-item.result _ _ _ next new c.loop-said.invariant.1),
    )

pub returns-clause-read : goal.returns-clause-read
returns-clause-read c =
    name_end_at c.loop-said.names.keys _ _ (drop_of_length-le c.args.tokens.now c.loop-said-test.false) c.loop-said.invariant.1
    ∙ ap (λ n. Ok (c.loop-said.names.keys, drop n c.args.tokens.now)) (sym c.loop-said.invariant.0)
