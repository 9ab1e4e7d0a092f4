-- Laws: the pages after an insertion are the old ones, each as often as before, and the new ones. Cited by the laws of sound indexes and of stores. Assumes
-- nothing.
use Rattle.std.specs.Prelude.{◌≡◌, refl, List, [], ◌∷◌, ◌++◌, ℕ, zero, suc, ◌+◌, ◌≤◌, ◌<◌, length, take, drop, leb, eqb}
use Rattle.std.proofs.Common.{sym, ap, ◌∙◌, append-nil, arith, take-append-drop, ne_eqb}
use Rattle.basis.specs.Tests.{either}
use Rattle.tree.specs.Lists.{NonEmpty, concat_map, count_if, occ, half}
use Rattle.tree.proofs.ListLaws.{concat_map_append, occ_append, occ_differ}
use Rattle.tree.specs.Order.{larger}
use Rattle.tree.specs.Pairs.{last_key}
use Rattle.tree.specs.Position.{Passes, choose}
use Rattle.tree.specs.Tree.{Page, Child, Entry, Tree, pages_under, pages}
use Rattle.tree.specs.Keeping.{Keeping}
use Rattle.tree.specs.Insertion.{Replacement, split_if_over, first_pair, place, grown_pages, reroot, insert_under, insert_entries}
use Rattle.tree.specs.Insertion.{insert}
use Rattle.tree.proofs.RouteLaws.{before, after, chosen_among}
use Rattle.tree.proofs.SplitLaws.{split_if_over-non_empty}

-- the first n new pages
abbrev pub new_pages : (ℕ → ℕ) → ℕ → List ℕ
new_pages name zero = []
new_pages name (suc n) = name n ∷ new_pages name n

-- every number stands in a list at most once; no new page stands in it; new pages differ
abbrev pub Distinct : List ℕ → Type 0
Distinct l = (z : ℕ) → occ z l ≤ 1

abbrev pub Unused : (ℕ → ℕ) → List ℕ → Type 0
Unused name l = (i : ℕ) → occ (name i) l ≡ 0

abbrev pub Injective : (ℕ → ℕ) → Type 0
Injective name = (i j : ℕ) → name i ≡ name j → i ≡ j

-- new pages that are not in a list are none of its members, and names that differ make new pages that differ
pub new_pages-apart : (name : ℕ → ℕ) (l : List ℕ) → Unused name l → (z n : ℕ) → 0 < occ z l → occ z (new_pages name n) ≡ 0
new_pages-apart name l f z zero i = refl
new_pages-apart name l f z (suc n) i =
    rw (ne_eqb z (name n) (λ e. occ_differ (name n) z l (f n) i (sym e))) (omega (arith, new_pages-apart name l f z n i))

pub new_pages-fresh : (name : ℕ → ℕ) → Injective name → (m n : ℕ) → n ≤ m → occ (name m) (new_pages name n) ≡ 0
new_pages-fresh name inj m zero l = refl
new_pages-fresh name inj m (suc n) l =
    rw (ne_eqb (name m) (name n) (λ e. let d : m ≡ n = inj m n e in omega arith)) (omega (arith, new_pages-fresh name inj m n (omega arith)))

-- the pages at and under a page, by those under its entries
abbrev pub page_and_under : {K C : Type 0} → (K × C → List ℕ) → K × Page K C → List ℕ
page_and_under under x = x.1.0 ∷ concat_map under x.1.1

pub split_if_over-pages : {K C : Type 0} (cap : ℕ) (name : ℕ → ℕ) (under : K × C → List ℕ) (z : ℕ) (a : K) (p : ℕ) (q : Replacement K C) →
    occ z (concat_map (page_and_under under) (split_if_over cap name a p q).0) + occ z (new_pages name q.1)
    ≡ count_if (eqb z p) + occ z (concat_map under q.0) + occ z (new_pages name (split_if_over cap name a p q).1)
split_if_over-pages cap name under z a p q = either (leb (length q.0) cap)
    (λ f. rw f (rw (append-nil (concat_map under q.0)) (omega arith)))
    (λ f. rw f (
    let lower : List ℕ = concat_map under (take (half (length q.0)) q.0) in
    let upper : List ℕ = concat_map under (drop (half (length q.0)) q.0) in
    let e : occ z (concat_map under q.0) ≡ occ z lower + occ z upper =
    ap (λ l. occ z (concat_map under l)) (sym (take-append-drop (half (length q.0)) q.0))
    ∙ (ap (occ z) (concat_map_append under (take (half (length q.0)) q.0) (drop (half (length q.0)) q.0))
    ∙ occ_append z lower upper) in
    rw (append-nil upper) (omega (arith, occ_append z lower (name q.1 ∷ upper)))))

-- one level of insertion, abstract in what lies below
place-pages : {K C : Type 0} (passes : Passes (K × C)) (g : K × C → ℕ → Replacement K C) (name : ℕ → ℕ) (under : K × C → List ℕ) (z : ℕ) →
    ((x : K × C) (n : ℕ) → occ z (concat_map under (g x n).0) + occ z (new_pages name n)
    ≡ occ z (under x) + occ z (new_pages name (g x n).1)) →
    (x : K × C) (xs : List (K × C)) (n : ℕ) →
    occ z (concat_map under (place passes g x (x ∷ xs) n).0) + occ z (new_pages name n)
    ≡ occ z (concat_map under (x ∷ xs)) + occ z (new_pages name (place passes g x (x ∷ xs) n).1)
place-pages {K} {C} passes g name under z ok x xs n =
    let front : List (K × C) = before passes (x ∷ xs) in
    let back : List (K × C) = after passes (x ∷ xs) in
    let y : K × C = choose passes x (x ∷ xs) in
    let joined : (l : List (K × C)) (m : List (K × C)) → occ z (concat_map under (l ++ m)) ≡ occ z (concat_map under l) + occ z (concat_map under m) =
    λ l m. ap (occ z) (concat_map_append under l m) ∙ occ_append z (concat_map under l) (concat_map under m) in
    omega (
      arith,
      ok y n,
      ap (λ l. occ z (concat_map under l)) (chosen_among passes x x xs),
      joined front (y ∷ back),
      occ_append z (under y) (concat_map under back),
      joined front ((g y n).0 ++ back),
      joined (g y n).0 back,
    )

first_pair-pages : {K : Type 0} (e : K × ℕ) (z h : ℕ) → occ z (concat_map (pages_under h) (first_pair e h)) ≡ 0
first_pair-pages e z zero = refl
first_pair-pages e z (suc h) = refl

reroot-pages : {K : Type 0} (name : ℕ → ℕ) (z h : ℕ) (t : Tree K h) (xs : List (Entry K (suc h))) (n : ℕ) → NonEmpty xs →
    occ z (grown_pages (reroot name h t xs n)) + occ z (new_pages name n)
    ≡ occ z (concat_map (pages_under (suc h)) xs) + occ z (new_pages name (reroot name h t xs n).2)
reroot-pages name z h t [] n s = absurd s
reroot-pages name z h t (x ∷ []) n s = rw (append-nil (concat_map (pages_under h) x.1.1))
reroot-pages name z h t (x ∷ y ∷ ys) n s = omega arith

module _ {K : Type 0} (Q : Keeping K) (cap : ℕ) (name : ℕ → ℕ) (e : K × ℕ) (z : ℕ) where
  insert_among-pages : (h : ℕ) →
      ((x : Entry K h) (n : ℕ) → occ z (concat_map (pages_under h) (insert_under Q cap name e h x n).0) + occ z (new_pages name n)
      ≡ occ z (pages_under h x) + occ z (new_pages name (insert_under Q cap name e h x n).1)) →
      (xs : List (Entry K h)) (n : ℕ) →
      occ z (concat_map (pages_under h) (insert_entries Q cap name e h xs n).0) + occ z (new_pages name n)
      ≡ occ z (concat_map (pages_under h) xs) + occ z (new_pages name (insert_entries Q cap name e h xs n).1)
  insert_among-pages h ok [] n = omega (arith, first_pair-pages e z h)
  insert_among-pages h ok (x ∷ xs) n = place-pages (Q.route e h) (insert_under Q cap name e h) name (pages_under h) z ok x xs n

  insert_under-pages : (h : ℕ) (x : Entry K h) (n : ℕ) →
      occ z (concat_map (pages_under h) (insert_under Q cap name e h x n).0) + occ z (new_pages name n)
      ≡ occ z (pages_under h x) + occ z (new_pages name (insert_under Q cap name e h x n).1)
  insert_under-pages zero x n = either (Q.pair_le e x) (λ u. rw u) (λ u. rw u)
  insert_under-pages (suc h) x n =
      let q : Replacement K (Child K h) = insert_entries Q cap name e h x.1.1 n in
      omega (
        arith,
        split_if_over-pages cap name (pages_under h) z (larger Q.order x.0 e.0) x.1.0 q,
        insert_among-pages h (insert_under-pages h) x.1.1 n,
      )

  pub insert_entries-pages : (h : ℕ) (xs : List (Entry K h)) (n : ℕ) →
      occ z (concat_map (pages_under h) (insert_entries Q cap name e h xs n).0) + occ z (new_pages name n)
      ≡ occ z (concat_map (pages_under h) xs) + occ z (new_pages name (insert_entries Q cap name e h xs n).1)
  insert_entries-pages h xs n = insert_among-pages h (insert_under-pages h) xs n

  -- Theorem: the pages after an insertion
  pub insert-pages : (h : ℕ) (t : Tree K h) →
      occ z (grown_pages (insert Q cap name e h t)) ≡ occ z (pages h t) + occ z (new_pages name (insert Q cap name e h t).2)
  insert-pages h t =
      let q : Replacement K (Child K h) = insert_entries Q cap name e h t.1 0 in
      let w : Replacement K (Child K (suc h)) = split_if_over cap name (last_key e.0 q.0) t.0 q in
      omega (
        arith,
        reroot-pages name z h t w.0 w.1 (split_if_over-non_empty cap name (last_key e.0 q.0) t.0 q),
        split_if_over-pages cap name (pages_under h) z (last_key e.0 q.0) t.0 q,
        insert_entries-pages h t.1 0,
      )
