-- Texts that are joined one by one are joined as a whole.
use Rattle.std.specs.Prelude.{◌≡◌, ℕ, Option, Some, None, is_some, unwrap_or, List, [], ◌∷◌, ◌++◌, map, refl}
use Rattle.std.specs.List.{concat}
use Rattle.std.specs.Option.{option_map, option_and_then}
use Rattle.std.proofs.Common.{ap, sym, ◌∙◌, true≢false, append_assoc, append-nil}
use Rattle.rsp_terms.specs.declared.term.Term.{Term}
use Rattle.rsp_expr.specs.Errors.{all_values}
use Rattle.rsp_expr.specs.Functions.{Written, written_of, common_tag, text_literal, concatenation}
use Rattle.rsp_operands.specs.Operands.{text_onto, texts_onto, tag_for}

abbrev pub texts_of : List Written → List ℕ
texts_of parts = concat (map (λ (w : Written). w.text) parts)

abbrev pub tags_of : List Written → List (Option (List ℕ))
tags_of parts = map (λ (w : Written). w.tag) parts

one_more : (front : List ℕ) (part : Written) (others : Option (List Written))
    → option_map (λ ws. (front ++ part.text) ++ texts_of ws) others
    ≡ option_map (λ ws. front ++ texts_of ws) (option_map (λ ws. part ∷ ws) others)
one_more front part None = refl
one_more front part (Some ws) = ap Some (append_assoc front part.text (texts_of ws))

texts_step : (front : List ℕ) (terms : List Term)
    → ((more : List ℕ) → texts_onto (Some more) terms ≡ option_map (λ ws. more ++ texts_of ws) (all_values (map written_of terms)))
    → (part : Option Written)
    → texts_onto (text_onto front part) terms ≡ option_map (λ ws. front ++ texts_of ws) (all_values (part ∷ map written_of terms))
texts_step front terms rest None = refl
texts_step front terms rest (Some part) = rest (front ++ part.text) ∙ one_more front part (all_values (map written_of terms))

texts_onto-all : (front : List ℕ) (terms : List Term)
    → texts_onto (Some front) terms ≡ option_map (λ ws. front ++ texts_of ws) (all_values (map written_of terms))
texts_onto-all front [] = ap Some (sym (append-nil front))
texts_onto-all front (term ∷ terms) = texts_step front terms (λ more. texts_onto-all more terms) (written_of term)

tags_step : (term : Term) (terms : List Term) (ws : List Written) (part : Option Written) (others : Option (List Written))
    → written_of term ≡ part → all_values (map written_of terms) ≡ others
    → ((vs : List Written) → all_values (map written_of terms) ≡ Some vs → map tag_for terms ≡ tags_of vs)
    → all_values (part ∷ map written_of terms) ≡ Some ws → map tag_for (term ∷ terms) ≡ tags_of ws
tags_step term terms ws None others first rest law is = absurd (true≢false (sym (ap is_some is)))
tags_step term terms ws (Some part) None first rest law is =
    absurd (true≢false (sym (ap is_some (ap (option_map (λ vs. part ∷ vs)) (sym rest) ∙ is))))
tags_step term terms ws (Some part) (Some vs) first rest law is =
    let same : part ∷ vs ≡ ws = ap (λ o. unwrap_or o []) (ap (option_map (λ vs. part ∷ vs)) (sym rest) ∙ is) in
    (λ i. option_and_then (λ (w : Written). w.tag) (first i) ∷ law vs rest i) ∙ ap tags_of same

tags_of-all : (terms : List Term) (ws : List Written) → all_values (map written_of terms) ≡ Some ws → map tag_for terms ≡ tags_of ws
tags_of-all [] ws is = ap (λ o. tags_of (unwrap_or o [])) is
tags_of-all (term ∷ terms) ws is =
    tags_step term terms ws (written_of term) (all_values (map written_of terms)) refl refl (tags_of-all terms) is

together : (terms : List Term) (others : Option (List Written)) → all_values (map written_of terms) ≡ others
    → concatenation terms ≡ option_map (text_literal (common_tag (map tag_for terms))) (texts_onto (Some []) terms)
together terms None is =
    ap (option_map (λ ws. text_literal (common_tag (tags_of ws)) (texts_of ws))) is
    ∙ ap (λ all. option_map (text_literal (common_tag (map tag_for terms))) (option_map texts_of all)) (sym is)
    ∙ ap (option_map (text_literal (common_tag (map tag_for terms)))) (sym (texts_onto-all [] terms))
together terms (Some ws) is =
    ap (option_map (λ vs. text_literal (common_tag (tags_of vs)) (texts_of vs))) is
    ∙ ap (λ tags. Some (text_literal (common_tag tags) (texts_of ws))) (sym (tags_of-all terms ws is))
    ∙ ap (λ all. option_map (text_literal (common_tag (map tag_for terms))) (option_map texts_of all)) (sym is)
    ∙ ap (option_map (text_literal (common_tag (map tag_for terms)))) (sym (texts_onto-all [] terms))

pub concatenation-is : (terms : List Term)
    → concatenation terms ≡ option_map (text_literal (common_tag (map tag_for terms))) (texts_onto (Some []) terms)
concatenation-is terms = together terms (all_values (map written_of terms)) refl

pub concatenation-none : (terms : List Term) → None ≡ texts_onto (Some []) terms → None ≡ concatenation terms
concatenation-none terms is =
    ap (option_map (text_literal (common_tag (map tag_for terms)))) is ∙ sym (concatenation-is terms)

pub concatenation-some : (terms : List Term) (text : List ℕ) (tag : Option (List ℕ)) (term : Term)
    → Some text ≡ texts_onto (Some []) terms → tag ≡ common_tag (map tag_for terms) → term ≡ text_literal tag text
    → Some term ≡ concatenation terms
concatenation-some terms text tag term is same made =
    ap Some made ∙ ap (λ t. Some (text_literal t text)) same
    ∙ ap (option_map (text_literal (common_tag (map tag_for terms)))) is ∙ sym (concatenation-is terms)

-- the tag of the first, where all have it
pub common_tag-first : (first tag : Option (List ℕ)) (tags : List (Option (List ℕ))) → tag ≡ first → common_tag (tag ∷ tags) ≡ common_tag (first ∷ tags)
common_tag-first first tag tags same = ap (λ t. common_tag (t ∷ tags)) same
