-- Laws: the audit's loops over pages, children and levels. Cited by the proofs of the functions that have these loops. Assumes nothing.
use Prim.Native.Nat.{ℕ, zero, suc, ◌+◌, ◌-◌, ◌≤◌, ◌<◌}
use Rattle.std.specs.Prelude.{◌≡◌, Bool, cond, not, ◌&&◌, length, Some, None}
use Rattle.std.specs.declared.option.Option.{Option}
use Rattle.std.proofs.Math.Path.{refl, ap}
use Rattle.std.proofs.Common.{sym, ◌∙◌, le-leb}
use Rattle.std.proofs.Math.Bool.{true, false}
use mathlib.Core.List.{List, [], ◌∷◌, map}
use native.Mathlib.Omega.{arith}
use Rattle.std.proofs.lemmas.List.{length-map}
use Rattle.std.proofs.Math.Dec.{leb}
use Rattle.basis.specs.Tests.{either, contra, impossible}
use Rattle.idx_page.specs.Header.{max_levels, is_page, root_offset, free_pointer, file_size, key_length}
use Rattle.idx_page.specs.Page.{right_at, number_at}
use Rattle.idx_page.specs.Reading.{entries_at}
use Rattle.idx_page.specs.Reading.{entries_from}
use Rattle.idx_page.proofs.ReadingLaws.{entries_are}
use Rattle.idx_page.specs.Children.{is_leaf, children_of, first_child}
use Rattle.idx_page.specs.declared.PageOffset.{PageOffset}
use Rattle.idx_sound.specs.AuditTest.{later_pages, Progress, Level, attribute_of, start, refused, chain, page_fits, counted, rows_under}
use Rattle.idx_sound.specs.AuditTest.{check_page, check_pages, check_rows, closed, root_level, next_level, levels_under, check_free, shape_good}
use Rattle.idx_shape.specs.declared.Progress as StateProgress
use Rattle.idx_shape.specs.declared.Level as StateLevel
use Rattle.idx_shape.specs.State.{progress_of, level_of, known, start_at}
use Rattle.idx_keys.specs.EntryLaws.{from_on, from_end}
use Rattle.idx_keys.specs.FileLaws.{chain-none, chain-some}

-- of a good progress and one that is refused, a test chose the one that is not good
chosen-bad : (t : Bool) (x : Progress) → x.good ≡ true → (cond t x refused).good ≡ false → cond t x refused ≡ refused
chosen-bad true x g e = contra g e
chosen-bad false x g e = refl

module _ (b : List ℕ) (k size a : ℕ) where
  -- a pass that was refused stays so
  pages-stopped : (ps : List ℕ) → check_pages b k size a ps refused ≡ refused
  unfolding check_page check_pages
  pages-stopped [] = refl
  pages-stopped (p ∷ ps) = pages-stopped ps

  rows-stopped : (rs : List (List ℕ)) → check_rows b k size a rs refused ≡ refused
  unfolding counted check_rows
  rows-stopped [] = refl
  rows-stopped (r ∷ rs) = ap (check_rows b k size a rs) (pages-stopped r) ∙ rows-stopped rs

  -- a count and pages after which a pass is not good any more refused it
  count-bad : (n : ℕ) (s : Progress) → (counted n s).good ≡ false → counted n s ≡ refused
  unfolding counted
  count-bad n s e = chosen-bad (s.good && leb n s.left) _ refl e

  page-bad : (p : ℕ) (s : Progress) → (check_page b k size a p s).good ≡ false → check_page b k size a p s ≡ refused
  unfolding check_page
  page-bad p s e = chosen-bad (s.good && page_fits b k size a p s.last s.next) _ refl e

  children-bad : (ps : List ℕ) (s : Progress) → s.good ≡ true → (check_pages b k size a ps s).good ≡ false → check_pages b k size a ps s ≡ refused
  unfolding check_pages
  children-bad [] s g e = contra g e
  children-bad (p ∷ ps) s g e =
      let t = check_page b k size a p s in
      either t.good (λ h. children-bad ps t h e) (λ h. ap (check_pages b k size a ps) (page-bad p s h) ∙ pages-stopped ps)

  -- the loop over a page's n entries: the children from entry i on, from the state s, come to what all children come to
  abbrev pub children_from : ℕ → ℕ → ℕ → List ℕ
  children_from p n i = map (λ e. e.1) (entries_from b k p n i)

  abbrev pub ChildrenLeft : ℕ → ℕ → ℕ → Progress → Progress → Type 0
  ChildrenLeft p n i s₀ s = check_pages b k size a (children_from p n 0) s₀ ≡ check_pages b k size a (children_from p (n - i) i) s

  module _ (p n i : ℕ) (s₀ s : Progress) (inv : ChildrenLeft p n i s₀ s) where
    children-all : n ≡ length (entries_at k size b p)
        → check_pages b k size a (children_of b k size p) s₀ ≡ check_pages b k size a (children_from p (n - i) i) s
    children-all en = rw (entries_are b k size p n en) inv

    pub children-end : n ≡ length (entries_at k size b p) → n ≤ i → check_pages b k size a (children_of b k size p) s₀ ≡ s
    unfolding check_pages
    children-end en h = children-all en ∙ rw (from_end b k p n i h)

    pub children-on : (c : ℕ) (u : Progress) → i < n → c ≡ number_at b k p i → check_page b k size a c s ≡ u → ChildrenLeft p n (i + 1) s₀ u
    unfolding check_pages
    children-on c u h ec e = inv ∙ rw (from_on b k p n i h, ← ec) (ap (check_pages b k size a (children_from p (n - (i + 1)) (i + 1))) e)

    -- a child that does not fit
    pub children_stop : n ≡ length (entries_at k size b p) → (c : ℕ) → i < n → c ≡ number_at b k p i → check_page b k size a c s ≡ refused
        → check_pages b k size a (children_of b k size p) s₀ ≡ refused
    children_stop en c h ec e = rw (entries_are b k size p n en) (children-on c refused h ec e ∙ pages-stopped (children_from p (n - (i + 1)) (i + 1)))

  -- the loop over the pages of a level, with at most `left` pages left: the rows of the pages from p on, from the state s, come to what all rows come to
  abbrev rows_from : ℕ → ℕ → List (List ℕ)
  rows_from left p = map (children_of b k size) (chain b size left p)

  abbrev pub PagesLeft : ℕ → ℕ → ℕ → Progress → Progress → Type 0
  PagesLeft first p left s₀ s = check_rows b k size a (rows_under b k size first) s₀
      ≡ check_rows b k size a (map (children_of b k size) (chain b size left p)) s

  module _ (first p left : ℕ) (s₀ s : Progress) (inv : PagesLeft first p left s₀ s) where
    pub pages_off : is_page size p ≡ false → check_rows b k size a (rows_under b k size first) s₀ ≡ s
    unfolding check_rows
    pages_off e = inv ∙ rw (chain-none b k size a p left e)

    pub pages-end : left ≤ 0 → check_rows b k size a (rows_under b k size first) s₀ ≡ s
    unfolding chain check_rows
    pages-end l = let none : left ≡ 0 = omega arith in inv ∙ rw none

    module _ (more : 0 < left) (e : is_page size p ≡ true) (n : ℕ) (en : n ≡ length (entries_at k size b p)) (t : Progress) (et : counted n s ≡ t) where
      row : (u : Progress) → check_pages b k size a (children_of b k size p) t ≡ u
          → check_pages b k size a (children_of b k size p) (counted (length (children_of b k size p)) s) ≡ u
      row u eu =
          let count : counted (length (children_of b k size p)) s ≡ t =
          ap (λ (m : ℕ). counted m s) (length-map (entries_at k size b p) (λ e. e.1) ∙ sym en) ∙ et in
          ap (check_pages b k size a (children_of b k size p)) count ∙ eu

      pub pages-on : (q next : ℕ) (u : Progress) → q ≡ right_at b p → next ≡ left - 1 → check_pages b k size a (children_of b k size p) t ≡ u
          → PagesLeft first q next s₀ u
      unfolding check_rows
      pages-on q next u eq ex eu =
          rw ex (inv ∙ rw (chain-some b k size a p left q (omega (arith, more)) e eq) (ap (check_rows b k size a (rows_from (left - 1) q)) (row u eu)))

      -- a child that does not fit
      pub pages-refused : check_pages b k size a (children_of b k size p) t ≡ refused → check_rows b k size a (rows_under b k size first) s₀ ≡ refused
      pages-refused e = pages-on (right_at b p) (left - 1) refused refl refl e ∙ rows-stopped (rows_from (left - 1) (right_at b p))

      pub pages-bad : t.good ≡ true → (u : Progress) → check_pages b k size a (children_of b k size p) t ≡ u → u.good ≡ false
          → check_rows b k size a (rows_under b k size first) s₀ ≡ u
      pages-bad g u eu f =
          let e = children-bad (children_of b k size p) t g (ap (λ (v : Progress). v.good) eu ∙ f) in
          pages-refused e ∙ sym e ∙ eu

      -- too few pages are left
      pub pages-over : t.good ≡ false → check_rows b k size a (rows_under b k size first) s₀ ≡ t
      pages-over f =
          let e : t ≡ refused = sym et ∙ count-bad n s (ap (λ (v : Progress). v.good) et ∙ f) in
          pages-refused (ap (check_pages b k size a (children_of b k size p)) e ∙ pages-stopped (children_of b k size p)) ∙ sym e

-- the level that a pass over the rows of a level comes to, which ends in s; the root is counted before the pass
module _ (b : List ℕ) (k size a : ℕ) (first : PageOffset) (left : ℕ) (leaf : Bool) (s : Progress) (el : leaf ≡ is_leaf b size first.0) where
  root-counted : 0 < left → counted 1 (start first.0 left) ≡ progress_of (Some (start_at first (left - 1)))
  unfolding counted
  root-counted some = rw (le-leb 1 left some)

  pub root-closed : 0 < left → a ≡ attribute_of true leaf → check_page b k size a first.0 (progress_of (Some (start_at first (left - 1)))) ≡ s
      → root_level b k size first.0 left ≡ closed leaf first.0 s
  unfolding root_level check_pages check_rows
  root-closed some ea e = rw (← el, ← ea) (ap (closed leaf first.0) (ap (check_page b k size a first.0) (root-counted some) ∙ e))

  pub next-closed : (above : ℕ) → first.0 ≡ first_child b k size above → a ≡ attribute_of false leaf
      → check_rows b k size a (rows_under b k size above) (progress_of (Some (start_at first left))) ≡ s
      → next_level b k size above left ≡ closed leaf first.0 s
  unfolding next_level
  next-closed above ef ea e = rw (← ef, ← el, ← ea) (ap (closed leaf first.0) e)

-- a level that is good, or not
known-some : (v : Level) (l : StateLevel.Level) → Some l ≡ known v → v ≡ level_of l
known-some v l e = either v.good
    (λ g.
    let same : l ≡ record { leaf = v.leaf; first = record { 0 = v.first }; left = v.left } = let known-good = rw g at e in cc in
    rw same (ap (λ (t : Bool). record { good = t; leaf = v.leaf; first = v.first; left = v.left }) g))
    (λ g. impossible (let none = rw g at e in cc))

known-none : (v : Level) → None ≡ known v → v.good ≡ false
known-none v e = either v.good (λ g. impossible (let some = rw g at e in cc)) (λ g. g)

-- the loop over the levels: the levels under v, `left` at most, come to what those under v₀, n at most, come to
module _ (b : List ℕ) (k size : ℕ) where
  abbrev pub LevelsLeft : ℕ → ℕ → Level → Level → Type 0
  LevelsLeft n left v₀ v = levels_under b k size n v₀ ≡ levels_under b k size left v

  -- the audit goes on under a level that is good and whose pages are not leaves
  abbrev pub goes_on : Level → Bool
  goes_on v = v.good && not v.leaf

  under_none : (left : ℕ) (v : Level) → goes_on v ≡ false → levels_under b k size left v ≡ v
  unfolding levels_under
  under_none zero v e = refl
  under_none (suc l) v e = rw (e, levels_under)

  under_some : (left : ℕ) (v : Level) → (left ≡ 0 → ⊥) → goes_on v ≡ true
      → levels_under b k size left v ≡ levels_under b k size (left - 1) (next_level b k size v.first v.left)
  unfolding levels_under
  under_some zero v n e = absurd (n refl)
  under_some (suc l) v n e = let d : suc l - 1 ≡ l = omega arith in rw (e, levels_under, d)

  -- the root's level r; the level u under it is checked ahead of the loop
  module _ (r v : Level) (er : r ≡ v) where
    pub top-alone : goes_on v ≡ false → levels_under b k size (max_levels - 1) r ≡ v
    top-alone e = rw er (under_none (max_levels - 1) v e)

    pub top-on : goes_on v ≡ true → (u w : Level) → next_level b k size v.first v.left ≡ u → levels_under b k size (max_levels - 2) u ≡ w
        → levels_under b k size (max_levels - 1) r ≡ w
    top-on e u w eu ew =
        rw er (under_some (max_levels - 1) v (λ z. omega (arith, z)) e ∙ (ap (levels_under b k size (max_levels - 2)) eu ∙ ew))

  module _ (n left : ℕ) (v₀ v : Level) (inv : LevelsLeft n left v₀ v) where
    pub levels_stop : goes_on v ≡ false → levels_under b k size n v₀ ≡ v
    levels_stop e = inv ∙ under_none left v e

    pub levels-end : left ≡ 0 → levels_under b k size n v₀ ≡ v
    unfolding levels_under
    levels-end e = inv ∙ rw e

    pub levels-on : (u : Level) → (left ≡ 0 → ⊥) → goes_on v ≡ true → next_level b k size v.first v.left ≡ u → LevelsLeft n (left - 1) v₀ u
    levels-on u more e h = inv ∙ (under_some left v more e ∙ ap (levels_under b k size (left - 1)) h)

  -- the levels under a good level: none under leaves
  under-bad : (left : ℕ) (v : Level) → None ≡ known v → None ≡ known (levels_under b k size left v)
  under-bad left v e = e ∙ sym (ap known (under_none left v (rw (known-none v e))))

  under-leaf : (left : ℕ) (l : StateLevel.Level) → l.leaf ≡ true → levels_under b k size left (level_of l) ≡ level_of l
  under-leaf left l e = under_none left (level_of l) (rw e)

  under-end : (left : ℕ) (l : StateLevel.Level) → left ≤ 0 → levels_under b k size left (level_of l) ≡ level_of l
  under-end left l h = levels-end left left (level_of l) (level_of l) refl (omega arith)

  under-on : (left next : ℕ) (l : StateLevel.Level) → left ≡ suc next → l.leaf ≡ false
      → levels_under b k size left (level_of l) ≡ levels_under b k size next (next_level b k size l.first.0 l.left)
  under-on left next l s e = let d : left - 1 ≡ next = omega arith in rw (← d) (under_some left (level_of l) (λ z. omega (arith, z)) (rw e))

  -- the root's level r is not good, or its page is a leaf
  module _ (r : Level) where
    pub come-bad : None ≡ known r → None ≡ known (levels_under b k size (max_levels - 1) r)
    come-bad e = under-bad (max_levels - 1) r e

    module _ (top : StateLevel.Level) (et : Some top ≡ known r) where
      root-known : levels_under b k size (max_levels - 1) r ≡ levels_under b k size (max_levels - 1) (level_of top)
      root-known = ap (levels_under b k size (max_levels - 1)) (known-some r top et)

      pub come-leaf : top.leaf ≡ true → Some top ≡ known (levels_under b k size (max_levels - 1) r)
      come-leaf f = sym (ap known (root-known ∙ under-leaf (max_levels - 1) top f))

      -- the level under it is checked ahead of the loop
      module _ (f : top.leaf ≡ false) where
        below-root : levels_under b k size (max_levels - 1) r ≡ levels_under b k size (max_levels - 2) (next_level b k size top.first.0 top.left)
        below-root = root-known ∙ under-on (max_levels - 1) (max_levels - 2) top refl f

        pub come-first : (l : StateLevel.Level) → Some l ≡ known (next_level b k size top.first.0 top.left)
            → levels_under b k size (max_levels - 1) r ≡ levels_under b k size (max_levels - 2) (level_of l)
        come-first l e = below-root ∙ ap (levels_under b k size (max_levels - 2)) (known-some (next_level b k size top.first.0 top.left) l e)

        pub come-first-bad : None ≡ known (next_level b k size top.first.0 top.left) → None ≡ known (levels_under b k size (max_levels - 1) r)
        come-first-bad e = under-bad (max_levels - 2) (next_level b k size top.first.0 top.left) e ∙ sym (ap known below-root)

    -- the levels under the root's, l being the one under the root, come to what the levels under v come to, `left` at most
    module _ (l v : StateLevel.Level) (left : ℕ) (ahead : levels_under b k size (max_levels - 1) r ≡ levels_under b k size (max_levels - 2) (level_of l))
        (inv : levels_under b k size (max_levels - 2) (level_of l) ≡ levels_under b k size left (level_of v)) where
      pub come-leaf-later : v.leaf ≡ true → Some v ≡ known (levels_under b k size (max_levels - 1) r)
      come-leaf-later f = sym (ap known (ahead ∙ inv ∙ under-leaf left v f))

      pub come-end : left ≤ 0 → Some v ≡ known (levels_under b k size (max_levels - 1) r)
      come-end h = sym (ap known (ahead ∙ inv ∙ under-end left v h))

      pub come-later-bad : 0 < left → v.leaf ≡ false → None ≡ known (next_level b k size v.first.0 v.left)
          → None ≡ known (levels_under b k size (max_levels - 1) r)
      come-later-bad more f e =
          under-bad (left - 1) (next_level b k size v.first.0 v.left) e ∙ sym (ap known (ahead ∙ inv ∙ under-on left (left - 1) v (omega arith) f))

  pub come-later : (l v : StateLevel.Level) (left : ℕ) → levels_under b k size (max_levels - 2) (level_of l) ≡ levels_under b k size left (level_of v)
      → (next : ℕ) → left ≡ suc next → v.leaf ≡ false → (u : StateLevel.Level) → Some u ≡ known (next_level b k size v.first.0 v.left)
      → levels_under b k size (max_levels - 2) (level_of l) ≡ levels_under b k size next (level_of u)
  come-later l v left inv next s f u e =
      inv ∙ under-on left next v s f ∙ ap (levels_under b k size next) (known-some (next_level b k size v.first.0 v.left) u e)

-- the answer of the first pass: by its last level, and by the free list
module _ (b d : List ℕ) (k size root pages : ℕ) (o : Option StateLevel.Level) (eb : d ≡ b) (ek : k ≡ key_length b) (es : size ≡ file_size b) (er : root ≡ root_offset d)
    (ep : pages ≡ later_pages size) (e : o ≡ known (levels_under d k size (max_levels - 1) (root_level d k size root pages))) where
  abbrev lowest : Level
  lowest = levels_under d k size (max_levels - 1) (root_level d k size root pages)

  whole : shape_good b ≡ (lowest.good && (lowest.leaf && check_free d size lowest.left (free_pointer b)))
  unfolding shape_good
  whole = rw (er, ep, es, ek, eb)

  pub shape-bad : o ≡ None → false ≡ shape_good b
  shape-bad n = sym (whole ∙ rw (known-none lowest (sym n ∙ e)))

  pub shape-upper : (l : StateLevel.Level) → o ≡ Some l → l.leaf ≡ false → false ≡ shape_good b
  shape-upper l s f = sym (whole ∙ rw (known-some lowest l (sym s ∙ e), f))

  pub shape-answer : (l : StateLevel.Level) → o ≡ Some l → l.leaf ≡ true → (free : ℕ) (g : Bool) → free ≡ free_pointer b → g ≡ check_free d size l.left free → g ≡ shape_good b
  shape-answer l s f free g ef eg = eg ∙ sym (whole ∙ rw (known-some lowest l (sym s ∙ e), f, ef))
