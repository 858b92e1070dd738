use Rattle.std.proofs.Common.{rules, ◌≡◌, ◌+◌, ◌-◌, ℕ, ◌||◌, ◌*◌, ◌≤◌, length, nat_le, nat_lt, filter, ap, ◌∙◌}
use Rattle.std.proofs.lemmas.Fn.{filter_same}
use Rattle.rsp_spec.specs.Windows.{in_content}
use Rattle.rsp_scope.proofs.Forgetting.{above-last, few-kept, few-left, forgotten}
use Rattle.rsp_scope.proofs.times.forget_times.Goals as goal

pub returns-then-are_half_up_to-clause-seen : goal.returns-then-are_half_up_to-clause-seen
returns-then-are_half_up_to-clause-seen c t after =
    let kept : c.retain.new.self.items ≡ filter (λ (x : ℕ). nat_lt c.opening-low.result x) c.into_vec-kept.result.items
    = filter_same _ (λ (x : ℕ). nat_lt c.opening-low.result x) _ (λ x b f k. search rules) _ _ c.retain.ensures.filtered in
    let all : c.into_vec-kept.result.items ≡ c.args.times.now = search rules in
    let left : c.from_vec.result ≡ c.retain.new.self.items = search rules in
    let less : c.in-Some.before + 1 ≡ c.args.from = search rules in
    ap (λ l. filter (λ time. in_content c.args.window.now t time || in_content c.args.window.now (t - 1) time) l)
    (left ∙ (kept ∙ ap (λ l. filter (λ (x : ℕ). nat_lt c.opening-low.result x) l) all))
    ∙ forgotten c.args.window.now c.args.from c.in-Some.before c.first_to_reach.result c.opening-low.result c.args.times.now
    c.first_to_reach.ensures.shape.slide_low less c.opening-low.ensures c.first_to_reach.ensures.first t after

pub returns-then-are_half_up_to-clause-rest : goal.returns-then-are_half_up_to-clause-rest
returns-then-are_half_up_to-clause-rest c =
    let kept : c.retain.new.self.items ≡ filter (λ (x : ℕ). nat_lt c.opening-low.result x) c.into_vec-kept.result.items
    = filter_same _ (λ (x : ℕ). nat_lt c.opening-low.result x) _ (λ x b f k. search rules) _ _ c.retain.ensures.filtered in
    let all : c.into_vec-kept.result.items ≡ c.args.times.now = search rules in
    let left : c.from_vec.result ≡ c.retain.new.self.items = search rules in
    let (n, is) = above-last c.opening-low.result c.args.times.now c.requires.sorted in
    (n, left ∙ (kept ∙ (ap (λ l. filter (λ (x : ℕ). nat_lt c.opening-low.result x) l) all ∙ is)))

pub returns-then-are_half_up_to-clause-few : goal.returns-then-are_half_up_to-clause-few
returns-then-are_half_up_to-clause-few c k later closed =
    let kept : c.retain.new.self.items ≡ filter (λ (x : ℕ). nat_lt c.opening-low.result x) c.into_vec-kept.result.items
    = filter_same _ (λ (x : ℕ). nat_lt c.opening-low.result x) _ (λ x b f k. search rules) _ _ c.retain.ensures.filtered in
    let all : c.into_vec-kept.result.items ≡ c.args.times.now = search rules in
    let left : c.from_vec.result ≡ c.retain.new.self.items = search rules in
    let less : c.in-Some.before + 1 ≡ c.args.from = search rules in
    few-left c.args.window.now c.args.from c.in-Some.before c.first_to_reach.result c.opening-low.result k c.args.times.now c.from_vec.result
    less c.opening-low.ensures c.first_to_reach.ensures.reaches closed
    (left ∙ (kept ∙ ap (λ l. filter (λ (x : ℕ). nat_lt c.opening-low.result x) l) all))

pub returns-else-are_half_up_to-clause-few : goal.returns-else-are_half_up_to-clause-few
returns-else-are_half_up_to-clause-few c k later closed =
    let less : c.in-Some.before + 1 ≡ c.args.from = search rules in
    let half : 2 * length (filter (λ time. nat_le time c.opening-low.result) c.args.times.now) ≤ length c.args.times.now = search rules in
    few-kept c.args.window.now c.args.from c.in-Some.before c.first_to_reach.result c.opening-low.result k c.args.times.now
    less c.opening-low.ensures c.first_to_reach.ensures.reaches closed half
