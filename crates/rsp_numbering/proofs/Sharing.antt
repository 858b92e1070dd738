-- The names that a SELECT shares, by the set of the names that it shows.
use Rattle.std.proofs.Common.{◌≡◌, ℕ, Bool, ◌||◌, List, refl, ap, ◌∙◌}
use Rattle.std.specs.List.{list_any}
use Rattle.std.specs.Str.{bytes_eq}
use Rattle.rsp_written.specs.Trees.{Projection, every_name, these}
use Rattle.rsp_numbering.specs.Naming.{is_shown, projects}
use Rattle.rsp_numbering.specs.Seeing.{scope_by}
use Rattle.rsp_numbering.specs.Selections.{is_star, items_in}

shared : (projection : Projection) (names : List (List ℕ))
    → ((x : List ℕ) → list_any (bytes_eq x) names ≡ is_shown (items_in projection) x)
    → (x : List ℕ) → (is_star projection || list_any (bytes_eq x) names) ≡ projects projection x
shared every_name names h x = refl
shared (these items) names h x = h x

pub shares_is : (number : ℕ) (projection : Projection) (every : Bool) (names : List (List ℕ)) → every ≡ is_star projection
    → ((x : List ℕ) → list_any (bytes_eq x) names ≡ is_shown (items_in projection) x)
    → scope_by number (λ x. every || list_any (bytes_eq x) names) ≡ scope_by number (projects projection)
shares_is number projection every names is h =
    let same = λ (x : List ℕ). ap (λ b. b || list_any (bytes_eq x) names) is ∙ shared projection names h x in
    λ i. scope_by number (λ x. same x i)
