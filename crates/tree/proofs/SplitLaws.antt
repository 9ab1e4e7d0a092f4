-- Laws: a page that is split if it is over capacity. Cited by the laws of insertion. Assumes nothing.
use Rattle.std.specs.Prelude.{◌≡◌, List, ℕ, suc, ◌+◌, ◌≤◌, ◌<◌, length, take, drop, leb}
use Rattle.std.proofs.Common.{sym, ap, ◌∙◌, append-nil, arith, take-append-drop, length-take, length-drop}
use Rattle.basis.specs.Tests.{either}
use Rattle.tree.specs.Lists.{NonEmpty, concat_map, half}
use Rattle.tree.proofs.ListLaws.{non_empty-length, concat_map_append}
use Rattle.tree.specs.Tree.{Page}
use Rattle.tree.specs.Insertion.{Replacement, split_if_over}

-- what stands under a page, by what stands under its entries
abbrev pub under_page : {K C B : Type 0} → (K × C → List B) → K × Page K C → List B
under_page under x = concat_map under x.1.1

-- a split moves nothing
pub split_if_over-under : {K C B : Type 0} (under : K × C → List B) (cap : ℕ) (name : ℕ → ℕ) (a : K) (p : ℕ) (q : Replacement K C) →
    concat_map (under_page under) (split_if_over cap name a p q).0 ≡ concat_map under q.0
split_if_over-under under cap name a p q =
    let m : ℕ = half (length q.0) in
    either (leb (length q.0) cap)
    (λ e. rw e (append-nil (concat_map under q.0)))
    (λ e. rw (e, append-nil (concat_map under (drop m q.0)))
    (sym (concat_map_append under (take m q.0) (drop m q.0)) ∙ ap (concat_map under) (take-append-drop m q.0)))

pub split_if_over-non_empty : {K C : Type 0} (cap : ℕ) (name : ℕ → ℕ) (a : K) (p : ℕ) (q : Replacement K C) →
    NonEmpty (split_if_over cap name a p q).0
split_if_over-non_empty cap name a p q = either (leb (length q.0) cap) (λ e. rw e tt) (λ e. rw e tt)

-- "the lower half, rounded up": twice the half is the count, or one more
half_up : (n : ℕ) → (n ≤ half n + half n) × (half n + half n ≤ suc n)
half_up n = (omega arith, omega arith)

-- neither half of a page over capacity is empty
pub lower-non_empty : {A : Type 0} (cap : ℕ) (xs : List A) → 0 < cap → cap < length xs → NonEmpty (take (half (length xs)) xs)
lower-non_empty cap xs pos l = non_empty-length (take (half (length xs)) xs) (simp length-take (omega (arith, half_up (length xs))))

pub upper-non_empty : {A : Type 0} (cap : ℕ) (xs : List A) → 0 < cap → cap < length xs → NonEmpty (drop (half (length xs)) xs)
upper-non_empty cap xs pos l = non_empty-length (drop (half (length xs)) xs) (simp length-drop (omega (arith, half_up (length xs))))
