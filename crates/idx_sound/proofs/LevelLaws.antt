-- Laws: the audit accepts the levels from the root down exactly if each is good, the pages of the last are leaves, and their pages are no more than the file
-- has. Cited by the law of what the audit accepts. Assumes nothing.
use Prim.Native.Nat.{ℕ, zero, suc, ◌+◌, ◌≤◌, ◌<◌}
use Rattle.std.specs.Prelude.{◌≡◌, Bool, ◌&&◌, length, eqb}
use Rattle.std.proofs.Math.Path.{refl}
use Rattle.std.proofs.Common.{sym, ap, ◌∙◌}
use mathlib.Core.List.{List, [], ◌∷◌, ◌++◌, map}
use Rattle.std.proofs.Math.Bool.{true, false, not}
use native.Mathlib.Omega.{arith}
use Rattle.std.proofs.Math.ListN.{length-append}
use borrow.Author.Tests.{eq-eqb, ne_eqb, eqb-true, eqb-false, not-true}
use Rattle.basis.specs.Lists.{All, all_map}
use Rattle.basis.specs.Tests.{either, both, join}
use Rattle.tree.specs.Lists.{NonEmpty}
use Rattle.tree.proofs.ListLaws.{non_empty-left}
use Rattle.tree.specs.Clauses.{head_or, Linked}
use Rattle.tree.proofs.Levels.{numbers, below, generation, reached, map-append}
use Rattle.idx_page.specs.Header.{max_bytes, no_page, is_page}
use Rattle.idx_page.specs.HeaderLaws.{is-page}
use Rattle.idx_page.specs.Reading.{entries_at}
use Rattle.idx_sound.specs.Sound.{links_of}
use Rattle.idx_page.specs.Children.{is_leaf, children_of, first_child}
use Rattle.idx_sound.specs.AuditTest.{Entries, max_pages, Level, start, chain, attribute_of, check_level, rows_under, next_level, levels_under}
use Rattle.idx_sound.specs.AttributeLaws.{leaf-bit}
use Rattle.idx_sound.proofs.RunLaws.{joined, Fits, Checked, Passed, check_passed, passed_check}

-- tests on the number of a level
pub same_suc : (i n : ℕ) → eqb (suc i) (suc n) ≡ eqb i n
same_suc i n = either (eqb i n)
    (λ e. eq-eqb (suc i) (suc n) (ap suc (eqb-true i n e)) ∙ sym e)
    (λ e. ne_eqb (suc i) (suc n) (λ q. eqb-false i n e (omega arith)) ∙ sym e)

module _ (b : List ℕ) (k size : ℕ) where
  -- the pages ps of a level are good: the root's or not, leaves or not
  pub record LevelGood (root leaf : Bool) (ps : List ℕ) : Type 0 where
    pub fit : All (Fits b k size (attribute_of root leaf)) ps
    pub linked : Linked no_page (links_of b) no_page ps
    pub checked : Checked b k size (attribute_of root leaf) no_page ps

  -- the audit stands at a level whose pages the entries es name: the pages are read back from its first page on, and no more are left than a file can have
  pub record StandsAt (es : Entries) (v : Level) : Type 0 where
    pub pages : chain b size max_pages v.first ≡ numbers es
    pub head : v.first ≡ head_or no_page (numbers es)
    pub few : v.left ≤ max_pages

  -- what is known of a good level, before which `left` pages were left
  pub record Known (root : Bool) (left : ℕ) (es : Entries) (v : Level) : Type 0 where
    pub level : LevelGood root v.leaf (numbers es)
    pub count : v.left + length (numbers es) ≡ left
    pub stands : StandsAt es v

  -- the levels under the level whose pages es name, with h levels under it
  abbrev pub GoodUnder : ℕ → Entries → Type 0
  GoodUnder h es = (i : ℕ) → i < h → LevelGood false (eqb (suc i) h) (numbers (generation (entries_at k size b) (suc i) es))

  -- the pages of these levels
  abbrev pub lower_pages : ℕ → Entries → List ℕ
  lower_pages h es = reached (entries_at k size b) h (below (entries_at k size b) es)

  -- the levels under a level, l at most, as they are found: `left` pages were left before them, and `rest` after them
  pub record Found (l : ℕ) (leaf : Bool) (es : Entries) (left rest : ℕ) : Type 0 where
    pub height : ℕ
    pub few : height ≤ l
    pub bottom : leaf ≡ eqb 0 height
    pub levels : GoodUnder height es
    pub count : rest + length (lower_pages height es) ≡ left

module _ (b : List ℕ) (k size : ℕ) (most : size ≤ max_bytes) where
  abbrev S : ℕ → Entries
  S = entries_at k size b

  pub not_page : is_page size no_page ≡ false
  not_page = either (is_page size no_page) (λ e. let i = is-page size no_page e in absurd (omega arith)) (λ e. e)

  -- a level is read back along its right links
  pub chain_is : (n last : ℕ) (ps : List ℕ) → length ps ≤ n → All (λ p. is_page size p ≡ true) ps → Linked no_page (links_of b) last ps
      → chain b size n (head_or no_page ps) ≡ ps
  unfolding chain
  chain_is zero last [] h a l = refl
  chain_is (suc n) last [] h a l = rw (not_page, chain)
  chain_is zero last (p ∷ ps) h a l = absurd (omega arith)
  chain_is (suc n) last (p ∷ ps) h a l = rw (a.0, l.1, chain) (ap (λ (r : List ℕ). p ∷ r) (chain_is n p ps (omega arith) a.1 l.2))

  passed-known : (root leaf : Bool) (first left : ℕ) (es : Entries) (v : Level) → left ≤ max_pages → v.leaf ≡ leaf → v.first ≡ first
      → v.left + length (numbers es) ≡ left → Passed b k size (attribute_of root leaf) no_page first left (numbers es) → Known b k size root left es v
  passed-known root leaf first left es v n el ef ec p =
      let ps = numbers es in
      let inside = all_map (Fits b k size (attribute_of root leaf)) (λ p. is_page size p ≡ true) (λ p f. f.page) ps p.fit in
      let few = p.few in
      record {
        level = rw el (record { fit = p.fit; linked = p.linked; checked = p.checked });
        count = ec;
        stands = record {
          pages = rw (ef, p.head) (chain_is max_pages no_page ps (omega arith) inside p.linked);
          head = ef ∙ p.head;
          few = omega arith;
        };
      }

  pub level-known : (root : Bool) (first : ℕ) (rs : List (List ℕ)) (es : Entries) (left : ℕ) → joined rs ≡ numbers es → left ≤ max_pages
      → (check_level b k size root first rs left).good ≡ true → Known b k size root left es (check_level b k size root first rs left)
  level-known root first rs es left e n g =
      let u = both _ _ g in
      let c = check_passed b k size (attribute_of root (is_leaf b size first)) (start first left) rs u.0 (eqb-true _ _ u.1) in
      passed-known root (is_leaf b size first) first left es (check_level b k size root first rs left) n refl refl (rw e at c.1) (rw e at c.0)

  -- and back
  pub leaf-known : (root leaf : Bool) (p : ℕ) → Fits b k size (attribute_of root leaf) p → is_leaf b size p ≡ leaf
  unfolding is_leaf
  leaf-known root leaf p f = rw (f.page, f.attribute) (leaf-bit root leaf)

  pub level-good : (root leaf : Bool) (first : ℕ) (rs : List (List ℕ)) (ps : List ℕ) (left : ℕ) → joined rs ≡ ps → NonEmpty ps → first ≡ head_or no_page ps
      → LevelGood b k size root leaf ps → length ps ≤ left → ((check_level b k size root first rs left).good ≡ true) × (is_leaf b size first ≡ leaf)
  level-good root leaf first rs [] left j s e l f = absurd s
  level-good root leaf first rs (p ∷ ps) left j s e l f =
      let is : is_leaf b size first ≡ leaf = rw e (leaf-known root leaf p l.fit.0) in
      let passed : Passed b k size (attribute_of root leaf) no_page first left (p ∷ ps) =
      record { fit = l.fit; head = e; linked = l.linked; checked = l.checked; few = f } in
      let c = passed_check b k size (attribute_of root leaf) (start first left) rs refl (rw j passed) in
      (rw is (join _ _ c.0 (eq-eqb _ _ c.1)), is)

  -- the pages under the pages that the entries es name
  numbers-below : (es : Entries) → joined (map (children_of b k size) (numbers es)) ≡ numbers (below S es)
  numbers-below [] = refl
  numbers-below (e ∷ es) =
      ap (λ (l : List ℕ). numbers (S e.1) ++ l) (numbers-below es) ∙ sym (map-append (λ x. x.1) (S e.1) (below S es))

  children_are : (es : Entries) (v : Level) → StandsAt b k size es v → joined (rows_under b k size v.first) ≡ numbers (below S es)
  children_are es v s = ap (λ (ps : List ℕ). joined (map (children_of b k size) ps)) s.pages ∙ numbers-below es

  abbrev next : Level → Level
  next v = next_level b k size v.first v.left

  next_known : (es : Entries) (v : Level) → StandsAt b k size es v → (next v).good ≡ true → Known b k size false v.left (below S es) (next v)
  unfolding next_level
  next_known es v s g =
      level-known false (first_child b k size v.first) (rows_under b k size v.first) (below S es) v.left (children_are es v s) s.few g

  -- a level from which the audit goes on is good
  pub levels-good : (l : ℕ) (v : Level) → (levels_under b k size l v).good ≡ true → v.good ≡ true
  unfolding levels_under
  levels-good zero v g = g
  levels-good (suc l) v g = either (v.good && not v.leaf) (λ e. (both _ _ e).0) (λ e. rw (e, levels_under) at g)

  -- what is found from a level on: its pages are leaves, or there is a good level under it
  found-bottom : (l : ℕ) (leaf : Bool) (es : Entries) (left : ℕ) → leaf ≡ true → Found b k size l leaf es left left
  found-bottom l leaf es left e = record { height = 0; few = omega arith; bottom = e; levels = λ i h. absurd (omega arith); count = omega arith }

  good-above : (h : ℕ) (leaf : Bool) (es : Entries) → leaf ≡ eqb 0 h → LevelGood b k size false leaf (numbers (below S es)) → GoodUnder b k size h (below S es)
      → GoodUnder b k size (suc h) es
  good-above h leaf es e v r zero l = rw (same_suc 0 h, ← e) v
  good-above h leaf es e v r (suc i) l = rw (same_suc (suc i) h) (r i (omega arith))

  found-above : (l : ℕ) (leaf : Bool) (es : Entries) (left rest : ℕ) (v : Level) → leaf ≡ false → Known b k size false left (below S es) v
      → Found b k size l v.leaf (below S es) v.left rest → Found b k size (suc l) leaf es left rest
  found-above l leaf es left rest v e n r =
      let few = r.few in
      let here = n.count in
      let under = r.count in
      record {
        height = suc r.height;
        few = omega arith;
        bottom = e ∙ sym (ne_eqb 0 (suc r.height) (omega arith));
        levels = good-above r.height v.leaf es r.bottom n.level r.levels;
        count = omega (arith, length-append (numbers (below S es)) (lower_pages b k size r.height (below S es)));
      }

  -- Theorem: levels that are accepted are good
  pub levels-found : (l : ℕ) (es : Entries) (v : Level) → StandsAt b k size es v → (levels_under b k size l v).good ≡ true
      → (levels_under b k size l v).leaf ≡ true → Found b k size l v.leaf es v.left (levels_under b k size l v).left
  unfolding levels_under
  levels-found zero es v s g h = found-bottom zero v.leaf es v.left h
  levels-found (suc l) es v s g h = either (v.good && not v.leaf)
      (λ e. let g' : (levels_under b k size l (next v)).good ≡ true = rw (e, levels_under) at g in
      let n = next_known es v s (levels-good l (next v) g') in
      let inner = not-true v.leaf (both v.good (not v.leaf) e).1 in
      rw (e, levels_under) (found-above l v.leaf es v.left (levels_under b k size l (next v)).left (next v) inner n
      (levels-found l (below S es) (next v) n.stands g' (rw (e, levels_under) at h))))
      (λ e. rw (e, levels_under) (found-bottom (suc l) v.leaf es v.left (rw (e, levels_under) at h)))

  -- and back, from a level whose pages have entries
  numbers-non_empty : (es : Entries) → NonEmpty es → NonEmpty (numbers es)
  numbers-non_empty [] s = s
  numbers-non_empty (e ∷ es) s = tt

  same_head : (n : ℕ) (xs ys : Entries) → NonEmpty xs → head_or n (numbers xs) ≡ head_or n (numbers (xs ++ ys))
  same_head n [] ys s = absurd s
  same_head n (x ∷ xs) ys s = refl

  pub next-head : (es : Entries) (first : ℕ) → NonEmpty es → first ≡ head_or no_page (numbers es) → All (λ e. NonEmpty (S e.1)) es
      → (first_child b k size first ≡ head_or no_page (numbers (below S es))) × NonEmpty (below S es)
  next-head [] first s e f = absurd s
  next-head (x ∷ es) first s e f = (
    ap (first_child b k size) e ∙ same_head no_page (S x.1) (below S es) f.0,
    non_empty-left (S x.1) (below S es) f.0,
  )

  next-good : (leaf : Bool) (es : Entries) (v : Level) → StandsAt b k size es v → NonEmpty es → All (λ e. NonEmpty (S e.1)) es
      → LevelGood b k size false leaf (numbers (below S es)) → length (numbers (below S es)) ≤ v.left → ((next v).good ≡ true) × ((next v).leaf ≡ leaf)
  unfolding next_level
  next-good leaf es v s some full g m =
      let h = next-head es v.first some s.head full in
      level-good false leaf (first_child b k size v.first) (rows_under b k size v.first) (numbers (below S es)) v.left (children_are es v s)
      (numbers-non_empty (below S es) h.1) h.0 g m

  -- the level u that is reached from v, past n pages
  pub record Reached (v u : Level) (n : ℕ) : Type 0 where
    pub good : u.good ≡ true
    pub leaf : u.leaf ≡ true
    pub count : u.left + n ≡ v.left

  -- every page down to the level above the leaves has an entry
  abbrev pub FullAbove : ℕ → Entries → Type 0
  FullAbove h es = (i : ℕ) → i < h → All (λ e. NonEmpty (entries_at k size b e.1)) (generation (entries_at k size b) i es)

  -- Theorem: good levels are accepted, if enough pages are left
  pub levels-reached : (l h : ℕ) (es : Entries) (v : Level) → h ≤ l → NonEmpty es → v.good ≡ true → v.leaf ≡ eqb 0 h
      → StandsAt b k size es v → FullAbove h es → GoodUnder b k size h es → length (lower_pages b k size h es) ≤ v.left
      → Reached v (levels_under b k size l v) (length (lower_pages b k size h es))
  unfolding levels_under
  levels-reached zero zero es v lt some g e s f w m = record { good = g; leaf = e; count = omega arith }
  levels-reached (suc l) zero es v lt some g e s f w m =
      let z : v.good && not v.leaf ≡ false = rw (g, e) in
      rw (z, levels_under) (record { good = g; leaf = e; count = omega arith })
  levels-reached zero (suc h) es v lt some g e s f w m = absurd (omega arith)
  levels-reached (suc l) (suc h) es v lt some g e s f w m =
      let z : v.good && not v.leaf ≡ true = rw (g, e, ne_eqb 0 (suc h) (omega arith)) in
      let sum = length-append (numbers (below S es)) (lower_pages b k size h (below S es)) in
      let full = f zero (omega arith) in
      let n = next-good (eqb 1 (suc h)) es v s some full (w zero (omega arith)) (omega arith) in
      let known = next_known es v s n.0 in
      let count = known.count in
      let head = next-head es v.first some s.head full in
      let r = levels-reached l h (below S es) (next v) (omega arith) head.1 n.0 (n.1 ∙ same_suc 0 h) known.stands
      (λ i o. f (suc i) (omega arith)) (λ i o. rw (same_suc (suc i) h) at (w (suc i) (omega arith))) (omega arith) in
      let under = r.count in
      rw (z, levels_under) (record { good = r.good; leaf = r.leaf; count = omega arith })
