-- Laws: the audit's rule accepts exactly the sound NDX indexes, and its three answers are those of `Audited`. Assumes nothing.
use Rattle.std.specs.Prelude.{ℕ, zero, suc, ◌+◌, ◌-◌, ◌≤◌, ◌<◌, ◌≡◌, refl, Bool, true, false, not, ◌&&◌, ◌||◌, List, [], ◌∷◌, ◌↔◌, length, eqb, leb}
use Rattle.std.proofs.Common.{sym, ap, ◌∙◌, subst, append-nil, inl, inr, arith, eq-eqb, ne_eqb, eqb-true, leb-true, le-leb}
use Rattle.std.specs.Bool.{beq}
use Rattle.std.proofs.Math.Option.{none, some}
use Rattle.std.proofs.Math.Nat.{min-eq_left}
use Rattle.std.proofs.lemmas.Bool.{eqb-false}
use Rattle.basis.specs.Lists.{All, all_map}
use Rattle.basis.specs.Tests.{either, both, join, contra}
use Rattle.tree.specs.Lists.{NonEmpty, occ, concat_map}
use Rattle.tree.proofs.ListLaws.{all_unit, all_map2, non_empty-length, occ-all}
use Rattle.tree.proofs.Insertion.Pages.{Distinct}
use Rattle.tree.specs.Tree.{Entry, pairs, pairs_under, pages_under, pages, level}
use Rattle.tree.specs.Clauses.{least}
use Rattle.tree.proofs.ClauseLaws.{ordered-ceilings}
use Rattle.tree.proofs.Ordered.{Separated, SeparatedTree, Ordered, ordered-ascending, separated-all, separated-ordered}
use Rattle.tree.specs.Store.{read_entry}
use Rattle.tree.proofs.Top.{top}
use Rattle.idx_page.specs.KeyOrder.{bytes_order}
use Rattle.tree.proofs.DistinctLaws.{Filled, Heights, levels-distinct, ascending-distinct}
use Rattle.tree.proofs.PageCount.{PageOf, later-all, later-count}
use Rattle.tree.proofs.Levels.{generation, numbers, all-to_map, all_of_map, generation-pages}
use Rattle.tree.proofs.Levels.{generation-level, level-generation, tree-pairs, tree-pages, below, all-to_concat}
use Rattle.ndx_page.specs.Header.{max_levels, root_page, page_count, keys_per_page, is_page, header_good}
use Rattle.ndx_page.specs.HeaderLaws.{good-header, is-page, is_page-from}
use Rattle.ndx_page.specs.Page.{count_at, lower_at, key_at, is_leaf, count_good}
use Rattle.ndx_sound.specs.Reading.{Key, Entries, entries_from, branch_entries, read_count, entries_at, index_tree, bare}
use Rattle.ndx_sound.specs.ReadingLaws.{branch-entries}
use Rattle.ndx_sound.specs.Sound.{index_pages, CountGood, NoLower, Sound, Audited}
use Rattle.ndx_sound.specs.TreeLaws.{by_top, kept_by_top, Fine, LeafPage, page-length, bare-ascending, fine, ordered}
use Rattle.ndx_sound.specs.Walk.{Status, walk}
use Rattle.ndx_sound.specs.AuditTest.{zeros, page_fits, height_from, index_height, start, complete, tree_good}
use Rattle.ndx_sound.specs.CountLaws.{count_all, count-length, room-length}
use Rattle.ndx_sound.proofs.WalkLaws.{Walks, Good, Accept, good-ordered, separated-read, page-walks}
use Rattle.ndx_sound.proofs.AcceptLaws.{accept_fitting, fitting_accept, fitting-levels, fitting-pairs, levels-fitting}

-- tests taken apart
beq_true : (a c : Bool) → beq a c ≡ true → a ≡ c
beq_true true true e = refl
beq_true true false e = contra e refl
beq_true false true e = contra e refl
beq_true false false e = refl

beq_same : (a c : Bool) → a ≡ c → beq a c ≡ true
beq_same true true e = refl
beq_same true false e = sym e
beq_same false true e = e
beq_same false false e = refl

or_right : (a c : Bool) → (a || c) ≡ true → a ≡ false → c ≡ true
or_right true c e f = contra refl f
or_right false c e f = e

or_left : (a c : Bool) → (a || c) ≡ true → c ≡ false → a ≡ true
or_left true c e f = refl
or_left false c e f = contra e f

zeros-at : (numbers : ℕ → ℕ) (n j : ℕ) → zeros numbers n j ≡ true → (i : ℕ) → j ≤ i → i < j + n → numbers i ≡ 0
unfolding zeros
zeros-at numbers zero j h i a c = absurd (omega arith)
zeros-at numbers (suc n) j h i a c =
    let u = both _ _ h in
    either (eqb i j)
    (λ e. subst (λ (x : ℕ). numbers x ≡ 0) (sym (eqb-true i j e)) (eqb-true _ _ u.0))
    (λ e. zeros-at numbers n (j + 1) u.1 i (omega (arith, eqb-false i j e)) (omega arith))

at-zeros : (numbers : ℕ → ℕ) (n j : ℕ) → ((i : ℕ) → j ≤ i → i < j + n → numbers i ≡ 0) → zeros numbers n j ≡ true
unfolding zeros
at-zeros numbers zero j h = refl
at-zeros numbers (suc n) j h = join _ _ (eq-eqb _ _ (h j (omega arith) (omega arith))) (at-zeros numbers n (j + 1) (λ i a c. h i (omega arith) (omega arith)))

-- what a page that fits is
pub record Fit (b : List ℕ) (lone : Bool) (h p : ℕ) : Type 0 where
  pub page : is_page (page_count b) p ≡ true
  pub leaf : is_leaf b p ≡ eqb h 0
  pub full : count_at b p ≤ keys_per_page b
  pub some : (leb 1 (count_at b p) || (lone && is_leaf b p)) ≡ true
  pub lower : is_leaf b p ≡ true → NoLower b p

pub fit : (b : List ℕ) (lone : Bool) (h p : ℕ) → page_fits b lone h p ≡ true → Fit b lone h p
unfolding page_fits count_good
fit b lone h p e =
    let t = both _ _ e in
    let u = both _ _ t.1 in
    let v = both _ _ u.1 in
    let c = both _ _ v.0 in
    let full : count_at b p ≤ keys_per_page b = leb-true _ _ c.0 in
    record {
      page = t.0;
      leaf = beq_true _ _ u.0;
      full = full;
      some = c.1;
      lower = λ l i m. zeros-at (lower_at b p) (read_count b p) 0 (or_right (not (is_leaf b p)) _ v.1 (rw l)) i (omega arith) (omega (arith, min-eq_left full));
    }

fit-from : (b : List ℕ) (lone : Bool) (h p : ℕ) → Fit b lone h p → page_fits b lone h p ≡ true
unfolding page_fits count_good
fit-from b lone h p f =
    let low : (not (is_leaf b p) || zeros (lower_at b p) (read_count b p) 0) ≡ true = either (is_leaf b p)
    (λ l. rw (l, min-eq_left f.full) (at-zeros (lower_at b p) (count_at b p) 0 (λ i a c. f.lower l i (omega arith))))
    (λ l. rw l) in
    join _ _ f.page (join _ _ (beq_same _ _ f.leaf) (join _ _ (join _ _ (le-leb _ _ f.full) f.some) low))

fit-filled : (b : List ℕ) (h p : ℕ) → page_fits b false h p ≡ true → NonEmpty (entries_at b p)
fit-filled b h p e =
    let f = fit b false h p e in
    let l = page-length b p f.page f.full in
    let c : 1 ≤ count_at b p = leb-true _ _ (or_left (leb 1 (count_at b p)) (false && is_leaf b p) f.some refl) in
    non_empty-length (entries_at b p) (omega arith)

-- the levels, by the first lower pages
height-few : (b : List ℕ) (l p : ℕ) → height_from b l p ≤ l
unfolding height_from
height-few b zero p = omega arith
height-few b (suc l) p = either (is_page (page_count b) p && not (is_leaf b p))
    (λ e. let ih = height-few b l (lower_at b p 0) in rw (e, height_from) (omega arith))
    (λ e. rw (e, height_from) (omega arith))

first-child : (b : List ℕ) (p n : ℕ) (G : Key × ℕ → Type 0) (under : Key × ℕ → Entries) → Separated kept_by_top G under (branch_entries b p n)
    → (o : Key) × G (o, lower_at b p 0)
unfolding entries_from
first-child b p zero G under c = (none, c.0.good)
first-child b p (suc n) G under c = (some (key_at b p 0), c.0.good)

height-is : (b : List ℕ) (h l p : ℕ) (lone : Bool) → h ≤ l → Accept by_top (page_count b) (entries_at b) (page_fits b) lone h p → height_from b l p ≡ h
unfolding height_from
height-is b zero zero p lone m a = refl
height-is b zero (suc l) p lone m a = let f = fit b lone zero p a.0 in rw (f.leaf, f.page, height_from)
height-is b (suc h) zero p lone m a = absurd (omega arith)
height-is b (suc h) (suc l) p lone m a =
    let f = fit b lone (suc h) p a.0 in
    let no : is_leaf b p ≡ false = f.leaf ∙ ne_eqb (suc h) 0 (omega arith) in
    let c = first-child b p (count_at b p) (Good by_top (page_count b) (entries_at b) (page_fits b) (suc h))
    (λ d. pairs_under (suc h) (read_entry (entries_at b)
    (suc h) d))
    (rw (branch-entries b p f.page f.full no) at a.1) in
    rw (no, f.page, height_from) (ap suc (height-is b h l (lower_at b p 0) false (omega arith) c.1))

-- heights, level by level
good-heights : (b : List ℕ) (h : ℕ) (es : Entries) → h ≤ max_levels → All (Good by_top (page_count b) (entries_at b) (page_fits b) h) es → (i : ℕ) → i < h
    → All (λ e. height_from b (max_levels - 1) e.1 ≡ h - suc i) (generation (entries_at b) i es)
good-heights b zero es m a i l = absurd (omega arith)
good-heights b (suc h) es m a zero l =
    let d : suc h - 1 ≡ h = omega arith in
    rw d (all_map (Good by_top (page_count b) (entries_at b) (page_fits b) (suc h)) (λ e. height_from b (max_levels - 1) e.1 ≡ h)
    (λ e g. height-is b h (max_levels - 1) e.1 false (omega arith) g) es a)
good-heights b (suc h) es m a (suc i) l =
    let d : suc h - suc (suc i) ≡ h - suc i = omega arith in
    let G = Good by_top (page_count b) (entries_at b) (page_fits b) in
    let under = all_map (G (suc h)) (λ e. All (G h) (entries_at b e.1))
    (λ e g. separated-all kept_by_top (G h) (λ x. pairs_under h (read_entry (entries_at b) h x)) (entries_at b e.1) g.1) es a in
    rw d (good-heights b h (below (entries_at b) es) (omega arith) (all-to_concat (G h) (λ e. entries_at b e.1) es under) i (omega arith))

-- a leaf names no pages
leaf-pages-none : (z : ℕ) (es : List (Entry Key zero)) → occ z (concat_map (pages_under zero) es) ≡ 0
leaf-pages-none z [] = refl
leaf-pages-none z (x ∷ es) = leaf-pages-none z es

-- pages that are all pages of a file
in_file : (b ps : List ℕ) → All (λ p. is_page (page_count b) p ≡ true) ps → (z : ℕ) → 0 < occ z ps → PageOf (λ i. i) 1 (page_count b) z
in_file b ps a z i = let u = is-page (page_count b) z (occ-all (λ p. is_page (page_count b) p ≡ true) z ps a i) in
    record { number = z; late = omega arith; early = u.1; there = refl }

below_root : (b : List ℕ) (i : ℕ) → generation (entries_at b) (suc i) ((none, root_page b) ∷ []) ≡ generation (entries_at b) i (entries_at b (root_page b))
below_root b i = ap (generation (entries_at b) i) (append-nil (entries_at b (root_page b)))

-- an index whose header is good
module _ (b : List ℕ) (e : header_good b ≡ true) where
  abbrev S : ℕ → Entries
  S = entries_at b

  abbrev r : ℕ
  r = root_page b

  abbrev root_entry : Entries
  root_entry = (none, root_page b) ∷ []

  abbrev fits : Bool → ℕ → ℕ → Bool
  fits = page_fits b

  -- what the walk asks, level by level, and back
  abbrev FitAt : ℕ → ℕ → ℕ → Type 0
  FitAt h i p = Fit b (eqb i 0) (h - i) p

  module _ (h : ℕ) where
    accept_levels : Accept by_top (page_count b) (entries_at b) (page_fits b) true h (root_page b) → (i : ℕ) → i ≤ h
        → All (λ x. FitAt h i x.1) (generation (entries_at b) i ((none, root_page b) ∷ []))
    accept_levels a zero l = let z : h - 0 ≡ h = omega arith in (rw z (fit b true h r a.0), tt)
    accept_levels a (suc i) l =
        let f = fitting-levels by_top (page_count b) S fits h (S r) (accept_fitting by_top (page_count b) S fits true h r a) i (omega arith) in
        rw (below_root b i, ne_eqb (suc i) 0 (omega arith))
        (all_map (λ x. page_fits b false (h - suc i) x.1 ≡ true) (λ x. Fit b false (h - suc i) x.1) (λ x y. fit b false (h - suc i) x.1 y)
        (generation S i (S r)) f)

    levels_accept : ((i : ℕ) → i ≤ h → All (λ x. FitAt h i x.1) (generation (entries_at b) i ((none, root_page b) ∷ [])))
        → All (λ x. 0 < x.1) (pairs h (index_tree b h))
        → SeparatedTree kept_by_top h (index_tree b h) → Accept by_top (page_count b) (entries_at b) (page_fits b) true h (root_page b)
    levels_accept f n o =
        let z : h - 0 ≡ h = omega arith in
        let lower = levels-fitting by_top (page_count b) S fits h (S r)
        (λ i l. all_map (λ x. Fit b false (h - suc i) x.1) (λ x. page_fits b false (h - suc i) x.1 ≡ true) (λ x y. fit-from b false (h - suc i)
        x.1 y) (generation S i (S r))
        (rw (below_root b i, ne_eqb (suc i) 0 (omega arith)) at (f (suc i) (omega arith))))
        (rw (tree-pairs S none r h, below_root b h) at n) in
        fitting_accept by_top (page_count b) S fits true h r (fit-from b true h r (rw z at (f 0 (omega arith)).0)) lower o

  -- an accepted tree is sound
  module _ (h : ℕ) (few : h + 1 ≤ max_levels) (a : Accept by_top (page_count b) (entries_at b) (page_fits b) true h (root_page b))
      (count : length (pages h (index_tree b h)) ≡ page_count b - 1) where
    abbrev levels_fit : (i : ℕ) → i ≤ h → All (λ x. FitAt h i x.1) (generation (entries_at b) i ((none, root_page b) ∷ []))
    levels_fit = accept_levels h a

    at-numbers : (Q : ℕ → ℕ → Type 0) → ((i p : ℕ) → i ≤ h → FitAt h i p → Q i p) → (i : ℕ) → i ≤ h
        → All (Q i) (numbers (generation (entries_at b) i ((none, root_page b) ∷ [])))
    at-numbers Q f i l = all-to_map (Q i) (λ x. x.1) (generation S i root_entry)
        (all_map (λ x. FitAt h i x.1) (λ x. Q i x.1) (λ x y. f i x.1 l y) (generation S i root_entry) (levels_fit i l))

    inside : All (λ p. is_page (page_count b) p ≡ true) (index_pages b h)
    inside = generation-pages S none r h (λ p. is_page (page_count b) p ≡ true) (at-numbers (λ i p. is_page (page_count b) p ≡ true) (λ i p l f. f.page))

    count-good : (i p : ℕ) → i ≤ h → FitAt h i p → CountGood b h p
    count-good i p l f = (go h l f.leaf f.some, f.full)
      where
        go : (g : ℕ) → i ≤ g → is_leaf b p ≡ eqb (g - i) 0 → (leb 1 (count_at b p) || (eqb i 0 && is_leaf b p)) ≡ true → least g ≤ count_at b p
        go zero m l t = omega arith
        go (suc g) m l t = leb-true 1 (count_at b p) (or_left (leb 1 (count_at b p)) (eqb i 0 && is_leaf b p) t (either (eqb i 0)
            (λ u. let n = ne_eqb (suc g - i) 0 (omega (arith, eqb-true i 0 u)) in rw (u, l ∙ n))
            (λ u. rw u)))

    o : Ordered kept_by_top h (index_tree b h)
    o = separated-ordered by_top h (index_tree b h)
        (separated-read by_top (page_count b) S fits h (good-ordered by_top (page_count b) S fits (fit-filled b) h) (S r) a.1)

    leaf-pages : All (λ (x : Key × ℕ). LeafPage b x.1) (generation (entries_at b) h ((none, root_page b) ∷ []))
    leaf-pages =
        let z : h - h ≡ 0 = omega arith in
        all_map (λ x. FitAt h h x.1) (λ x. LeafPage b x.1)
        (λ x f. record { page = f.page; full = f.full; leaf = f.leaf ∙ eq-eqb (h - h) 0 z }) (generation S h root_entry) (levels_fit h (omega arith))

    -- no page is met twice: pages have one height each
    heights : Heights (entries_at b) (height_from b (max_levels - 1)) h ((none, root_page b) ∷ [])
    heights zero l = let z : h - 0 ≡ h = omega arith in (rw z (height-is b h (max_levels - 1) r true (omega arith) a), tt)
    heights (suc i) l =
        rw (below_root b i)
        (good-heights b h (S r) (omega arith)
        (separated-all kept_by_top (Good by_top (page_count b) (entries_at b) (page_fits b) h) (λ d. pairs_under h (read_entry (entries_at b) h d)) (S r) a.1) i
        (omega arith))

    filled : (eqb h 0 ≡ false) → Filled (entries_at b) (suc h) ((none, root_page b) ∷ [])
    filled q zero l =
        let f = fit b true h r a.0 in
        (non_empty-length (S r) ((page-length b r f.page f.full).2 (f.leaf ∙ q)), tt)
    filled q (suc i) l =
        let f = fitting-levels by_top (page_count b) S fits h (S r) (accept_fitting by_top (page_count b) S fits true h r a) i (omega arith) in
        rw (below_root b i)
        (all_map (λ x. page_fits b false (h - suc i) x.1 ≡ true) (λ x. NonEmpty (entries_at b x.1)) (λ x y. fit-filled b (h - suc i) x.1 y)
        (generation S i (S r)) f)

    distinct : Distinct (index_pages b h)
    distinct z = either (eqb h 0)
        (λ q. let g = eqb-true h 0 q in lone h g z)
        (λ q.
        let t = tree-pages S none r h z in
        let d = levels-distinct S (height_from b (max_levels - 1)) h ((none, root_page b) ∷ []) heights
        (ascending-distinct S by_top h ((none, root_page b) ∷ []) (filled q)
        (rw (tree-pairs S none r h) at (ordered-ascending kept_by_top h (index_tree b h) o))) z in
        omega arith)
      where
        lone : (g : ℕ) → g ≡ 0 → (z : ℕ) → occ z (pages g (index_tree b g)) ≤ 1
        lone zero e z = let n = leaf-pages-none z (index_tree b zero).1 in either (eqb z r) (λ u. rw u (omega arith)) (λ u. rw u (omega arith))
        lone (suc g) e z = absurd (omega arith)

    accepted-sound : Sound b
    accepted-sound = record {
      header = e;
      height = h;
      inside = inside;
      once = λ p i.
          let u = is-page (page_count b) p i in
          let root = is-page (page_count b) r (good-header b e).root in
          later-all (λ i. i) (λ i j q. q) (page_count b) (index_pages b h) (in_file b (index_pages b h) inside) (omega arith) distinct (omega (arith, count)) p
          (omega arith) u.1;
      leaves = generation-level S none r h (λ j ps. All (λ p. is_leaf b p ≡ eqb j 0) ps) (at-numbers (λ i p. is_leaf b p ≡ eqb (h - i) 0) (λ i p l f. f.leaf));
      no_lower = all_map (λ p. eqb 0 0 ≡ true → NoLower b p) (NoLower b) (λ p f. f refl) (level 0 h (index_tree b h))
          (generation-level S none r h (λ j ps. All (λ p. eqb j 0 ≡ true → NoLower b p) ps)
          (at-numbers (λ i p. eqb (h - i) 0 ≡ true → NoLower b p) (λ i p l f u. f.lower (f.leaf ∙ u))) 0 (omega arith));
      levels = few;
      counts = generation-pages S none r h (CountGood b h) (at-numbers (λ i p. CountGood b h p) count-good);
      ascending = bare-ascending b h leaf-pages (ordered-ascending kept_by_top h (index_tree b h) o);
      records = all-to_map (λ x. 0 < x.1) bare (pairs h (index_tree b h))
          (rw (tree-pairs S none r h, below_root b h) (fitting-pairs by_top (page_count b) S fits h (S r) (accept_fitting by_top
          (page_count b) S fits true h r a)));
      ceilings = ordered-ceilings kept_by_top h (index_tree b h) o;
    }

  -- a sound index is accepted
  module _ (s : Sound b) where
    abbrev H : ℕ
    H = s.height

    no_lower_lem : (i : ℕ) → i ≤ s.height
        → All (λ p. eqb (s.height - i) 0 ≡ true → NoLower b p) (numbers (generation (entries_at b) i ((none, root_page b) ∷ [])))
    no_lower_lem = level-generation S none r H (λ j ps. All (λ p. eqb j 0 ≡ true → NoLower b p) ps)
        (λ j l. either (eqb j 0)
        (λ u. let z = eqb-true j 0 u in rw z (all_map (NoLower b) (λ p. eqb 0 0 ≡ true → NoLower b p) (λ p n q. n) (level 0 H (index_tree b H)) s.no_lower))
        (λ u. all_map (λ p. Unit {0}) (λ p. eqb j 0 ≡ true → NoLower b p) (λ p n q. contra q u) (level j H (index_tree b H)) (all_unit (level j H
        (index_tree b H)))))

    sound-fits : (i : ℕ) → i ≤ s.height → All (λ x. FitAt s.height i x.1) (generation (entries_at b) i ((none, root_page b) ∷ []))
    sound-fits i l =
        let bottom : eqb i H ≡ eqb (H - i) 0 = either (eqb i H)
        (λ u. u ∙ sym (eq-eqb (H - i) 0 (omega (arith, eqb-true i H u))))
        (λ u. u ∙ sym (ne_eqb (H - i) 0 (omega (arith, eqb-false i H u)))) in
        all_map2 (λ x. Fine b H i x.1) (λ x. eqb (H - i) 0 ≡ true → NoLower b x.1) (λ x. FitAt H i x.1)
        (λ x f n. record { page = f.page; leaf = f.leaf ∙ bottom; full = f.full; some = f.some; lower = λ q. n (sym (f.leaf ∙ bottom) ∙ q) })
        (generation S i root_entry) (fine b s i l)
        (all_of_map (λ p. eqb (H - i) 0 ≡ true → NoLower b p) (λ x. x.1) (generation S i root_entry) (no_lower_lem i l))

    sound_accept : Accept by_top (page_count b) (entries_at b) (page_fits b) true s.height (root_page b)
    sound_accept = levels_accept H sound-fits (all_of_map (λ x. 0 < x.1) bare (pairs H (index_tree b H)) s.records) (ordered b s).separated

    sound-count : suc (length (index_pages b s.height)) ≡ page_count b
    sound-count =
        let root = is-page (page_count b) r (good-header b e).root in
        later-count (λ i. i) (λ i j q. q) (page_count b) (index_pages b H) (in_file b (index_pages b H) s.inside)
        (λ z i j. s.once z (is_page-from (page_count b) z (omega arith) j)) (omega arith)

    sound-height : index_height b ≡ s.height
    sound-height = height-is b H (max_levels - 1) r true (omega (arith, s.levels)) sound_accept

  -- the walk
  abbrev walked : ℕ → Status Key
  walked h = walk (top bytes_order) (page_count b) (entries_at b) (page_fits b) true h (root_page b) start

  walks : (h : ℕ) → Walks by_top (page_count b) (Accept by_top (page_count b) (entries_at b) (page_fits b) true h (root_page b)) (pairs h (index_tree b h))
      (pages h (index_tree b h)) (walk by_top (page_count b) (entries_at b) (page_fits b) true h (root_page b))
  walks h = page-walks by_top (page_count b) S fits (fit-filled b) h true r

  complete-sound : (h : ℕ) → h + 1 ≤ max_levels → complete b (walked h) ≡ true → Sound b
  complete-sound h few c =
      let u = both (walked h).good _ c in
      let k = (walks h).accepts start u.0 in
      let d = (walks h).reaches start k in
      let n : eqb (count_all 0 (pages h (index_tree b h))) (page_count b - 1) ≡ true = rw d at u.1 in
      let m = count-length 0 (pages h (index_tree b h)) in
      accepted-sound h few k.meets (omega (arith, m, eqb-true (count_all 0 (pages h (index_tree b h))) (page_count b - 1) n))

  sound-complete : (s : Sound b) → complete b (walked s.height) ≡ true
  sound-complete s =
      let n = sound-count s in
      let m = count-length 0 (index_pages b s.height) in
      let d = (walks s.height).reaches start
      (record {
        start = refl;
        meets = sound_accept s;
        after = all_map (λ x. 0 < x.1) (λ x. Unit {0}) (λ x y. tt) (pairs s.height (index_tree b s.height))
            (all_of_map (λ x. 0 < x.1) bare (pairs s.height (index_tree b s.height)) s.records);
        room = room-length (page_count b) 0 (index_pages b s.height) (omega arith);
      }) in
      rw d (eq-eqb (count_all 0 (index_pages b s.height)) (page_count b - 1) (omega (arith, m, n)))

  -- Theorem: the audit's rule accepts exactly the sound indexes
  pub accepted : (tree_good b ≡ true) ↔ Sound b
  unfolding tree_good
  accepted = (
    (λ c. complete-sound (index_height b) (omega (arith, height-few b (max_levels - 1) (root_page b))) c),
    (λ s. rw (sound-height s) (sound-complete s)),
  )

-- the three answers
pub answer-bad : (b : List ℕ) → header_good b ≡ false → Audited b 24
answer-bad b e = record {
  bad = ((λ q. e), (λ q. refl));
  sound = ((λ q. absurd (omega (arith, q))), (λ s. contra s.header e));
  other = inl refl;
}

module _ (b : List ℕ) (h : header_good b ≡ true) where
  pub answer-sound : tree_good b ≡ true → Audited b 0
  answer-sound e = record {
    bad = ((λ q. absurd (omega (arith, q))), (λ q. contra h q));
    sound = ((λ q. (accepted b h).0 e), (λ s. refl));
    other = inr (inl refl);
  }

  pub answer-unsound : tree_good b ≡ false → Audited b 25
  answer-unsound e = record {
    bad = ((λ q. absurd (omega (arith, q))), (λ q. contra h q));
    sound = ((λ q. absurd (omega (arith, q))), (λ s. contra ((accepted b h).1 s) e));
    other = inr (inr refl);
  }
