-- The slack that a log is asked for with.
use Rattle.std.proofs.Common.{◌≡◌, ℕ, ◌≤◌, Bool, true, false, nat_le, Option, Some, None, List, [], ◌∷◌, refl, ap}
use Rattle.std.proofs.lemmas.Bool.{leb-true}
use Rattle.std.specs.Bool.{then_some}
use Rattle.std.specs.Option.{option_and_then, option_map_or}
use Rattle.rsp_spec.specs.Limits.{most_slack}
use Rattle.rsp_text.specs.Digits.{read_u64}
use Rattle.rsp_words.specs.declared.form.Form.{Form}
use Rattle.rsp_words.specs.declared.log.Log.{Log}
use Rattle.rsp_words.specs.Words.{form_of, log_for, log_of, slack_of, slack_read, values, without_json, without_slack}

-- ---- at most a day

read_within : (read : Option ℕ) (slack : ℕ) → option_and_then (λ n. then_some (nat_le n most_slack) n) read ≡ Some slack → slack ≤ most_slack
read_within None slack is = cc
read_within (Some n) slack is = by (nat_le n most_slack) refl is
  where
    by : (b : Bool) → nat_le n most_slack ≡ b → then_some b n ≡ Some slack → slack ≤ most_slack
    by false test is = cc
    by true test is = let same : n ≡ slack = cc in rw (← same) (leb-true n most_slack test)

slack_within : (digits : Option (List ℕ)) (slack : ℕ) → slack_read digits ≡ Some slack → slack ≤ most_slack
slack_within None slack is = let same : 0 ≡ slack = cc in rw (← same) (leb-true 0 most_slack refl)
slack_within (Some digits) slack is = read_within (read_u64 digits) slack is

of_slack : (form : Form) (values : List (List ℕ)) (slack : Option ℕ) (log : Log) → ((n : ℕ) → slack ≡ Some n → n ≤ most_slack) → log_for form values slack ≡ Some log → log.slack ≤ most_slack
of_slack form [] None log within is = cc
of_slack form [] (Some n) log within is =
    let same : n ≡ log.slack = ap (λ (found : Option Log). option_map_or (λ (log : Log). log.slack) found 0) is in
    rw (← same) (within n refl)
of_slack form (value ∷ values) slack log within is = cc

pub log_within : (words : List (List ℕ)) (log : Log) → log_of words ≡ Some log → log.slack ≤ most_slack
log_within words log is =
    let rest = without_slack words in
    of_slack (form_of rest) (values (without_json rest)) (slack_read (slack_of words)) log (slack_within (slack_of words)) is

-- ---- no log, where the number is none

pub no_slack : (form : Form) (values : List (List ℕ)) → log_for form values None ≡ None
no_slack form [] = refl
no_slack form (value ∷ values) = refl
