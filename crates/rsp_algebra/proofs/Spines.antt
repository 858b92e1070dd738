-- The way from a tree down along its first children.
use Rattle.std.proofs.Common.{◌≡◌, ◌≤◌, Option, None, Some, List, [], ◌∷◌, ◌++◌, refl, sym, ap, Bor, ℕ}
use Rattle.std.specs.Option.{IsSomeAnd, option_copied}
use Rattle.rsp_algebra.specs.declared.tree.Tree.{Tree, size-Tree}
use Rattle.rsp_algebra.specs.Spines.{first_of, Leads, AreNoDeeper}

some_is : (tree : Option Tree) (node : Tree) → IsSomeAnd tree (λ end. end ≡ node) → tree ≡ Some node
some_is None node is = elim is [ ]
some_is (Some tree) node is = ap Some is

-- one node more at the end
one_deeper : (tree : Option Tree) (nodes : List (Bor Tree)) (node : Bor Tree) (P : Tree → Type 0) → Leads tree nodes (λ end. end ≡ node.now) → IsSomeAnd (first_of node.now) P → Leads tree (nodes ++ node ∷ []) P
one_deeper tree [] node P leads first = (some_is tree node.now leads, first)
one_deeper tree (next ∷ nodes) node P leads first = (leads.0, one_deeper (first_of next.now) nodes node P leads.1 first)

pub deeper : (top : Tree) (before after : List (Bor Tree)) (node child : Bor Tree) → after ≡ before ++ node ∷ [] → option_copied (Some child) ≡ first_of node.now → Leads (Some top) before (λ end. end ≡ node.now) → Leads (Some top) after (λ end. end ≡ child.now)
deeper top before after node child pushed first leads =
    rw pushed (one_deeper (Some top) before node (λ end. end ≡ child.now) leads (rw (sym first) refl))

-- the last node is the end of the way without it
to_last : (tree : Option Tree) (nodes : List (Bor Tree)) (node : Bor Tree) (P Q : Tree → Type 0) → Leads tree (nodes ++ node ∷ []) P → Q node.now → Leads tree nodes Q
to_last tree [] node P Q leads holds = by tree leads.0
  where
    by : (t : Option Tree) → t ≡ Some node.now → IsSomeAnd t Q
    by t is = rw is holds
to_last tree (next ∷ nodes) node P Q leads holds = (leads.0, to_last (first_of next.now) nodes node P Q leads.1 holds)

-- and the old end is its first child
behind_last : (tree : Option Tree) (nodes : List (Bor Tree)) (node : Bor Tree) (P : Tree → Type 0) → Leads tree (nodes ++ node ∷ []) P → IsSomeAnd (first_of node.now) P
behind_last tree [] node P leads = leads.1
behind_last tree (next ∷ nodes) node P leads = behind_last (first_of next.now) nodes node P leads.1

pub leads_on : (tree : Option Tree) (nodes : List (Bor Tree)) (P Q : Tree → Type 0) → ((end : Tree) → P end → Q end) → Leads tree nodes P → Leads tree nodes Q
leads_on None [] P Q on leads = elim leads [ ]
leads_on (Some tree) [] P Q on leads = on tree leads
leads_on tree (next ∷ nodes) P Q on leads = (leads.0, leads_on (first_of next.now) nodes P Q on leads.1)

pub pushed_no_deeper : (depth : ℕ) (before after : List (Bor Tree)) (node : Bor Tree) → after ≡ before ++ node ∷ [] → AreNoDeeper depth before → size-Tree node.now ≤ depth → AreNoDeeper depth after
pushed_no_deeper depth before after node is all less = rw is (go before all)
  where
    go : (nodes : List (Bor Tree)) → AreNoDeeper depth nodes → AreNoDeeper depth (nodes ++ node ∷ [])
    go [] all = (less, tt)
    go (next ∷ nodes) all = (all.0, go nodes all.1)

pub popped_no_deeper : (depth : ℕ) (before after : List (Bor Tree)) (node : Bor Tree) → before ≡ after ++ node ∷ [] → AreNoDeeper depth before → AreNoDeeper depth after × (size-Tree node.now ≤ depth)
popped_no_deeper depth before after node is all = go after (rw is at all)
  where
    go : (nodes : List (Bor Tree)) → AreNoDeeper depth (nodes ++ node ∷ []) → AreNoDeeper depth nodes × (size-Tree node.now ≤ depth)
    go [] all = (tt, all.0)
    go (next ∷ nodes) all = let rest = go nodes all.1 in ((all.0, rest.0), rest.1)

-- what holds of the last node holds of the end of the way without it, and the old end is its first child
pub node_taken : (top : Tree) (before after : List (Bor Tree)) (node : Bor Tree) (P Q : Tree → Type 0) → before ≡ after ++ node ∷ [] → Leads (Some top) before P → Q node.now → Leads (Some top) after Q
node_taken top before after node P Q is leads holds = to_last (Some top) after node P Q (rw is at leads) holds

pub node_over : (top : Tree) (before after : List (Bor Tree)) (node : Bor Tree) (P : Tree → Type 0) → before ≡ after ++ node ∷ [] → Leads (Some top) before P → IsSomeAnd (first_of node.now) P
node_over top before after node P is leads = behind_last (Some top) after node P (rw is at leads)

pub at_top : (top : Tree) (nodes : List (Bor Tree)) (P : Tree → Type 0) → nodes ≡ [] → Leads (Some top) nodes P → P top
at_top top nodes P none leads = rw none at leads
