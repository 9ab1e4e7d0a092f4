-- Laws: the pages of each level after a removal are the old ones without the emptied ones, whatever the route. Cited by the laws of links. Assumes nothing.
use Rattle.std.specs.Prelude.{◌≡◌, refl, cond, List, [], ◌∷◌, ◌++◌, ℕ, zero, suc, ◌+◌, ◌≤◌, ◌<◌, ltb, eqb}
use Rattle.std.proofs.Common.{sym, ap₂, ◌∙◌, append-nil, arith, ltb-true, ltb-false, eq-eqb, ne_eqb}
use Rattle.std.proofs.lemmas.Bool.{eqb-false}
use Rattle.basis.specs.Tests.{either}
use Rattle.tree.specs.Lists.{concat_map, occ}
use Rattle.tree.proofs.ListLaws.{concat_map_append, concat_map-none, occ_append, occ-head, occ-behind, occ_differ, occ-concat_map}
use Rattle.tree.specs.Tree.{Entry, Tree, pages_under, pages, level_under, level}
use Rattle.tree.proofs.Insertion.Pages.{Distinct}
use Rattle.tree.proofs.Insertion.Levels.{level_under-pages}
use Rattle.tree.specs.Position.{position}
use Rattle.tree.specs.Keeping.{Route}
use Rattle.tree.specs.Removal.{replace_by, numbers_at, unless_emptied, if_emptied, settle}
use Rattle.tree.specs.Removal.{remove_under, remove_entries, remove, emptied_under, emptied_among, emptied}
use Rattle.tree.proofs.Removal.Pages.{replace_by-pages, remove_under-pages, remove_entries-pages}
use Rattle.tree.specs.Unlinking.{without_all}
use Rattle.tree.proofs.UnlinkLaws.{without_all-absent, without_all_append, without_all-both}

-- each page is on a level
abbrev OnLevel : {K : Type 0} → ℕ → (h : ℕ) → List (Entry K h) → Type 0
OnLevel z h xs = (m : ℕ) × (m < h) × (0 < occ z (concat_map (level_under m h) xs))

entries_on_level : {K : Type 0} (z h : ℕ) →
    ((x : Entry K h) → 0 < occ z (pages_under h x) → (m : ℕ) × (m < h) × (0 < occ z (level_under m h x))) →
    (xs : List (Entry K h)) → 0 < occ z (concat_map (pages_under h) xs) → OnLevel z h xs
entries_on_level z h ok [] i = absurd (omega arith)
entries_on_level z h ok (x ∷ xs) i = either (ltb 0 (occ z (pages_under h x)))
    (λ e. let w : (m : ℕ) × (m < h) × (0 < occ z (level_under m h x)) = ok x (ltb-true 0 (occ z (pages_under h x)) e) in
    (w.0, w.1, omega (arith, w.2, occ_append z (level_under w.0 h x) (concat_map (level_under w.0 h) xs))))
    (λ e. let w : OnLevel z h xs = entries_on_level z h ok xs (omega (
      arith,
      ltb-false 0 (occ z (pages_under h x)) e,
      occ_append z (pages_under h x) (concat_map (pages_under h) xs),
    )) in
    (w.0, w.1, omega (arith, w.2, occ_append z (level_under w.0 h x) (concat_map (level_under w.0 h) xs))))

pub page_on_level : {K : Type 0} (z h : ℕ) (x : Entry K h) → 0 < occ z (pages_under h x) →
    (m : ℕ) × (m < h) × (0 < occ z (level_under m h x))
page_on_level {K = K} z zero x i = absurd (omega arith)
page_on_level {K = K} z (suc h) x i = either (eqb z x.1.0)
    (λ e. (h, omega arith, rw (eq-eqb h h refl, e) (omega arith)))
    (λ e. let w : OnLevel z h x.1.1 = entries_on_level z h (page_on_level {K = K} z h) x.1.1
    (occ-behind z x.1.0 (concat_map (pages_under h) x.1.1) (eqb-false z x.1.0 e) i) in
    (w.0, omega (arith, w.1), rw (ne_eqb w.0 h (λ q. omega (arith, w.1))) w.2))

-- a level that has one page alone keeps it, if that page is not among those that go
alone : (p : ℕ) (out : List ℕ) → occ p out ≡ 0 → without_all out (p ∷ []) ≡ p ∷ []
alone p out o = without_all-absent out (p ∷ [])
    (λ z i. rw (ne_eqb z p (λ e. occ_differ p z out o i (sym e))))

-- a page at level h that stays or goes; `old` was level j below it, and the pages `out` go from that level
unless_emptied-level : {K : Type 0} (j h : ℕ) (a : K) (p : ℕ) (xs : List (Entry K h)) (out old : List ℕ) → occ p out ≡ 0 →
    concat_map (level_under j h) xs ≡ without_all out old →
    concat_map (level_under j (suc h)) (unless_emptied a p xs) ≡ without_all (out ++ if_emptied p xs) (cond (eqb j h) (p ∷ []) old)
unless_emptied-level j h a p [] out old o e = rw (without_all-both out (p ∷ []) (cond (eqb j h) (p ∷ []) old)) (either (eqb j h)
    (λ u. rw (u, alone p out o, eq-eqb p p refl))
    (λ u. rw (u, ← e)))
unless_emptied-level j h a p (x ∷ xs) out old o e = rw (append-nil out) (either (eqb j h)
    (λ u. rw u (sym (alone p out o)))
    (λ u. rw u (append-nil (concat_map (level_under j h) (x ∷ xs)) ∙ e)))

-- one level of removal, abstract in what lies below: of an entry, `f` gives the pages of a level, `under` all pages, and `out` the emptied ones
replace_by-level : {A : Type 0} (f under out : A → List ℕ) (g : A → List A) →
    ((z : ℕ) (x : A) → occ z (f x) ≤ occ z (under x)) →
    ((z : ℕ) (x : A) → occ z (concat_map under (g x)) + occ z (out x) ≡ occ z (under x)) →
    ((x : A) → Distinct (under x) → concat_map f (g x) ≡ without_all (out x) (f x)) →
    (i : ℕ) (xs : List A) → Distinct (concat_map under xs) → concat_map f (replace_by i g xs) ≡ without_all (numbers_at i out xs) (concat_map f xs)
replace_by-level f under out g inf ino ok i [] d = refl
replace_by-level f under out g inf ino ok zero (x ∷ xs) d =
    let parts : (z : ℕ) → occ z (concat_map under (x ∷ xs)) ≡ occ z (under x) + occ z (concat_map under xs) =
    λ z. occ_append z (under x) (concat_map under xs) in
    rw (concat_map_append f (g x) xs, without_all_append (out x) (f x) (concat_map f xs))
    (ap₂ (λ (a b : List ℕ). a ++ b) (ok x (λ z. omega (arith, d z, parts z)))
    (sym (without_all-absent (out x) (concat_map f xs)
    (λ z i. omega (arith, d z, parts z, ino z x, occ-concat_map z f under (inf z) xs)))))
replace_by-level f under out g inf ino ok (suc i) (x ∷ xs) d =
    let parts : (z : ℕ) → occ z (concat_map under (x ∷ xs)) ≡ occ z (under x) + occ z (concat_map under xs) =
    λ z. occ_append z (under x) (concat_map under xs) in
    rw (without_all_append (numbers_at i out xs) (f x) (concat_map f xs))
    (ap₂ (λ (a b : List ℕ). a ++ b)
    (sym (without_all-absent (numbers_at i out xs) (f x)
    (λ z o. omega (arith, d z, parts z, inf z x, replace_by-pages z under out g (ino z) i xs))))
    (replace_by-level f under out g inf ino ok i xs (λ z. omega (arith, d z, parts z))))

-- the root p stays on its level, or becomes the only leaf; `old m` was level m below it
settle-level : {K : Type 0} (j h p : ℕ) (xs : List (Entry K h)) (out : List ℕ) (old : ℕ → List ℕ) → occ p out ≡ 0 →
    concat_map (level_under j h) xs ≡ without_all out (old j) → j ≤ (settle h p xs).0 →
    (m : ℕ) × (m ≤ h) × (level j (settle h p xs).0 (settle h p xs).1 ≡ without_all out (cond (eqb m h) (p ∷ []) (old m)))
settle-level j h p [] out old o e l = (h, omega arith, rw (eq-eqb j 0 (omega arith), eq-eqb h h refl) (sym (alone p out o)))
settle-level j h p (x ∷ xs) out old o e l = (j, l, either (eqb j h) (λ u. rw u (sym (alone p out o))) (λ u. rw u e))

module _ {K : Type 0} (route : Route K) where
  module _ (j : ℕ) where
    remove_entries-step : (h : ℕ) →
        ((x : Entry K h) → Distinct (pages_under h x) →
        concat_map (level_under j h) (remove_under route h x) ≡ without_all (emptied_under route h x) (level_under j h x)) →
        (xs : List (Entry K h)) → Distinct (concat_map (pages_under h) xs) →
        concat_map (level_under j h) (remove_entries route h xs) ≡ without_all (emptied_among route h xs) (concat_map (level_under j h) xs)
    remove_entries-step h ok xs d =
        replace_by-level (level_under j h) (pages_under h) (emptied_under route h) (remove_under route h) (λ z x. level_under-pages z j h x)
        (λ z x. remove_under-pages route z h x) ok (position (route h) xs) xs d

    remove_under-level : (h : ℕ) (x : Entry K h) → Distinct (pages_under h x) →
        concat_map (level_under j h) (remove_under route h x) ≡ without_all (emptied_under route h x) (level_under j h x)
    remove_under-level zero x d = concat_map-none (remove_under route zero x)
    remove_under-level (suc h) x d =
        let under : List ℕ = concat_map (pages_under h) x.1.1 in
        unless_emptied-level j h x.0 x.1.0 (remove_entries route h x.1.1) (emptied_among route h x.1.1)
        (concat_map (level_under j h) x.1.1)
        (omega (arith, d x.1.0, occ-head x.1.0 under, remove_entries-pages route x.1.0 h x.1.1))
        (remove_entries-step h (remove_under-level h) x.1.1 (λ z. omega (arith, d z)))

    remove_entries-level : (h : ℕ) (xs : List (Entry K h)) → Distinct (concat_map (pages_under h) xs) →
        concat_map (level_under j h) (remove_entries route h xs) ≡ without_all (emptied_among route h xs) (concat_map (level_under j h) xs)
    remove_entries-level h xs d = remove_entries-step h (remove_under-level h) xs d

  -- Theorem: each level after a removal is one of the old levels without the emptied pages: the level of the same number, or the root's if the root becomes a
  -- leaf
  pub remove-level : (h : ℕ) (t : Tree K h) → Distinct (pages h t) → (j : ℕ) → j ≤ (remove route h t).0 →
      (m : ℕ) × (m ≤ h) × (level j (remove route h t).0 (remove route h t).1 ≡ without_all (emptied route h t) (level m h t))
  remove-level h t d j l =
      settle-level j h t.0 (remove_entries route h t.1) (emptied route h t) (λ m. concat_map (level_under m h) t.1)
      (omega (arith, d t.0, occ-head t.0 (concat_map (pages_under h) t.1), remove_entries-pages route t.0 h t.1))
      (remove_entries-level j h t.1 (λ z. omega (arith, d z))) l
