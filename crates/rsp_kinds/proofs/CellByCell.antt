-- The terms that a row shows, cell by cell.
use Rattle.std.proofs.Common.{◌≡◌, Option, List, [], ◌∷◌, ◌++◌, map, sym, ap, ◌∙◌}
use Rattle.std.specs.Option.{option_map}
use Rattle.std.proofs.lemmas.List.{append_assoc}

-- what is shown so far, followed by what is left, is the whole
pub shown-next : {V W : Type 0} (shown : V → W) (cells cells' : List (Option W)) (here rest : List (Option V)) (cell : Option V) (made : Option W) (whole : List (Option W))
    → here ≡ cell ∷ rest → made ≡ option_map shown cell → cells' ≡ cells ++ made ∷ [] → cells ++ map (option_map shown) here ≡ whole → cells' ++ map (option_map shown) rest ≡ whole
shown-next shown cells cells' here rest cell made whole split is pushed so_far =
    ap (λ (made : List _). made ++ map (option_map shown) rest) pushed
    ∙ (append_assoc cells (made ∷ []) (map (option_map shown) rest)
    ∙ ((λ i. cells ++ (is i ∷ map (option_map shown) rest)) ∙ (ap (λ (left : List _). cells ++ map (option_map shown) left) (sym split) ∙ so_far)))
