-- Laws: the audit's test accepts exactly the sound indexes, pass by pass, and the three answers meet `Audited`. Cited by the proof of the audit. Assumes
-- nothing.
use Rattle.std.specs.Prelude.{ℕ, zero, suc, ◌-◌, ◌%◌, ◌≤◌, ◌≡◌, List, [], ◌∷◌, ◌++◌, Bool, false, ◌↔◌, length, eqb}
use Rattle.std.proofs.Math.Path.{refl}
use Rattle.std.proofs.Math.Bool.{true}
use Rattle.std.proofs.Common.{inl, inr, arith, length-append, ne_eqb}
use Rattle.basis.specs.Lists.{All, all_append}
use Rattle.basis.specs.Tests.{either, contra, both, join}
use Rattle.tree.specs.Pairs.{Ascending}
use Rattle.tree.specs.Tree.{pairs}
use Rattle.tree.specs.Clauses.{Ceilings}
use Rattle.tree.proofs.Levels.{reached, generations_reached}
use Rattle.tree.specs.Keeping.{pair_order}
use Rattle.idx_page.specs.Header.{max_bytes, max_levels, page_size, root_offset, free_pointer, file_size, key_length, is_page, header_good, features}
use Rattle.idx_page.specs.HeaderLaws.{is-page, good-header}
use Rattle.idx_page.specs.KeyOrder.{bytes_order}
use Rattle.idx_page.specs.Reading.{entries_at}
use Rattle.idx_sound.specs.Sound.{index_tree, Sound, Audited, kept_by}
use Rattle.idx_sound.specs.AuditTest.{Entries, Level, later_pages, root_level, levels_under, check_free, complete, shape_good, keys_above_good, pages_good}
use Rattle.idx_sound.specs.FreeLaws.{Free, free-found, free-passed}
use Rattle.idx_sound.proofs.LevelLaws.{LevelGood, Known, GoodUnder, lower_pages, Found, level-known, level-good, levels-good, levels-found, levels-reached}
use Rattle.idx_sound.proofs.ShapeLaws.{root_entry, GoodLevels, Shape, levels-inside, levels-counts, entries-filled, shape_pairs, shape_sound, sound_shape}
use Rattle.idx_sound.proofs.DistinctLaws.{all-distinct, count-once, once-count}
use Rattle.idx_sound.proofs.KeyLaws.{height-is, keys-ceilings}

module _ (b : List ℕ) (k size root : ℕ) (whole : size % page_size ≡ 0) (most : size ≤ max_bytes) where
  abbrev S : ℕ → Entries
  S = entries_at k size b

  abbrev all_pages : ℕ → List ℕ
  all_pages h = reached (entries_at k size b) (suc h) (root_entry root)

  abbrev first : Level
  first = root_level b k size root (later_pages size)

  abbrev last : Level
  last = levels_under b k size (max_levels - 1) first

  root-known : first.good ≡ true → Known b k size true (later_pages size) (root_entry root) first
  unfolding root_level
  root-known g = level-known b k size most true root ((root ∷ []) ∷ []) (root_entry root) (later_pages size) refl (omega arith) g

  pages-inside : (h : ℕ) → GoodLevels b k size root h → All (λ p. is_page size p ≡ true) (all_pages h)
  pages-inside h v = generations_reached S (λ p. is_page size p ≡ true) (suc h) (root_entry root) (λ i l. levels-inside b k size root h v i (omega arith))

  -- accepted pages are those of a good index
  all-good : (h : ℕ) (leaf : Bool) → leaf ≡ eqb 0 h → LevelGood b k size true leaf (root ∷ []) → GoodUnder b k size h (root_entry root)
      → GoodLevels b k size root h
  all-good h leaf e v f zero l = rw e at v
  all-good h leaf e v f (suc i) l = rw (ne_eqb (suc i) 0 (omega arith)) (f i (omega arith))

  -- pages that are in the tree or free are those of the file
  all-inside : (h : ℕ) (ps : List ℕ) → GoodLevels b k size root h → All (λ p. is_page size p ≡ true) ps → All (λ p. is_page size p ≡ true) (all_pages h ++ ps)
  all-inside h ps v i = all_append (λ p. is_page size p ≡ true) (all_pages h) ps (pages-inside h v) i

  found_shape : (v : Level) (rest : ℕ) → Known b k size true (later_pages size) (root_entry root) v
      → Found b k size (max_levels - 1) v.leaf (root_entry root) v.left rest → check_free b size rest (free_pointer b) ≡ true → Shape b k size root
  found_shape v rest r f e =
      let few = f.few in
      let h = f.height in
      let good = all-good h v.leaf f.bottom r.level f.levels in
      let free = free-found b size rest (free_pointer b) e in
      let ps = free.0 in
      let list = free.1 in
      let distinct = all-distinct b k size root most h good ps list.chained list.inside list.pages in
      let tree = length-append (root ∷ []) (lower_pages b k size h (root_entry root)) in
      let count : length (all_pages h ++ ps) ≡ later_pages size =
      omega (arith, length-append (all_pages h) ps, r.count, f.count, list.count) in
      record {
        height = h;
        few = omega arith;
        levels = good;
        free = ps;
        free_list = list.chained;
        free_inside = list.inside;
        free_pages = list.pages;
        once = count-once size (all_pages h ++ ps) whole (all-inside h ps good list.inside) distinct count;
      }

  complete_shape : complete b k size (free_pointer b) last ≡ true → Shape b k size root
  complete_shape e =
      let u = both last.good _ e in
      let v = both last.leaf _ u.1 in
      let r = root-known (levels-good b k size most (max_levels - 1) first u.0) in
      found_shape first last.left r (levels-found b k size most (max_levels - 1) (root_entry root) first r.stands u.0 v.0) v.1

  -- and back
  root-good : (leaf : Bool) → LevelGood b k size true leaf (root ∷ []) → 1 ≤ later_pages size → (first.good ≡ true) × (first.leaf ≡ leaf)
  unfolding root_level
  root-good leaf v some = level-good b k size most true leaf root ((root ∷ []) ∷ []) (root ∷ []) (later_pages size) refl tt refl v some

  shape_complete : Shape b k size root → complete b k size (free_pointer b) last ≡ true
  shape_complete s =
      let h = s.height in
      let few = s.few in
      let inside = all-inside h s.free s.levels s.free_inside in
      let page = is-page size root inside.0 in
      let count = once-count size (all_pages h ++ s.free) whole inside s.once (omega arith) in
      let sum = length-append (all_pages h) s.free in
      let g = root-good (eqb 0 h) (s.levels zero (omega arith)) (omega arith) in
      let r = root-known g.0 in
      let here = r.count in
      let filled = entries-filled b k size root h (levels-inside b k size root h s.levels) (levels-counts b k size root h s.levels) in
      let u = levels-reached b k size most (max_levels - 1) h (root_entry root) first (omega arith) tt g.0 g.1 r.stands
      (λ i l. filled i (omega arith) (omega arith)) (λ i l. rw (ne_eqb (suc i) 0 (omega arith)) at (s.levels (suc i) (omega arith))) (omega arith) in
      let free : Free b size last.left (free_pointer b) s.free =
      record { chained = s.free_list; inside = s.free_inside; pages = s.free_pages; count = omega (arith, u.count) } in
      join _ _ u.good (join _ _ u.leaf (free-passed b size last.left (free_pointer b) s.free free))

-- Theorem: the first pass accepts exactly the shapes that are good
pub shape_accepted : (b : List ℕ) → header_good b ≡ true → (shape_good b ≡ true) ↔ Shape b (key_length b) (file_size b) (root_offset b)
unfolding shape_good
shape_accepted b e =
    let g = good-header b e in (
      complete_shape b (key_length b) (file_size b) (root_offset b) g.whole g.most,
      shape_complete b (key_length b) (file_size b) (root_offset b) g.whole g.most,
    )

-- and then the second pass accepts exactly the keys above pages that are ceilings
pub keys-accepted : (b : List ℕ) → header_good b ≡ true → (s : Shape b (key_length b) (file_size b) (root_offset b))
    → Ascending (pair_order bytes_order (features b)) (pairs s.height (index_tree b s.height))
    → (keys_above_good b ≡ true) ↔ Ceilings (kept_by b) s.height (index_tree b s.height)
unfolding keys_above_good
keys-accepted b e s ascending =
    let g = good-header b e in
    rw (height-is b (key_length b) (file_size b) (root_offset b) g.whole g.most s)
    (keys-ceilings b (key_length b) (file_size b) (root_offset b) g.whole g.most s ascending)

-- Theorem: the audit's test accepts exactly the sound indexes
pub accepted : (b : List ℕ) → header_good b ≡ true → (pages_good b ≡ true) ↔ Sound b
unfolding pages_good
accepted b e = (
  (λ h.
      let u = both (shape_good b) (keys_above_good b) h in
      let s = (shape_accepted b e).0 u.0 in
      shape_sound b e s ((keys-accepted b e s (shape_pairs b e s).0).0 u.1)),
  (λ s.
      let shape = sound_shape b s in
      join _ _ ((shape_accepted b e).1 shape) ((keys-accepted b e shape s.ascending).1 s.ceilings)),
)

-- the three answers
pub answer-bad : (b : List ℕ) → header_good b ≡ false → Audited b 24
answer-bad b e = record {
  bad = ((λ q. e), (λ q. refl));
  sound = ((λ q. absurd (omega (arith, q))), (λ s. contra s.header e));
  other = inl refl;
}

module _ (b : List ℕ) (h : header_good b ≡ true) where
  pub answer-sound : pages_good b ≡ true → Audited b 0
  answer-sound e = record {
    bad = ((λ q. absurd (omega (arith, q))), (λ q. contra h q));
    sound = ((λ q. (accepted b h).0 e), (λ s. refl));
    other = inr (inl refl);
  }

  pub answer-unsound : pages_good b ≡ false → Audited b 25
  answer-unsound e = record {
    bad = ((λ q. absurd (omega (arith, q))), (λ q. contra h q));
    sound = ((λ q. absurd (omega (arith, q))), (λ s. contra ((accepted b h).1 s) e));
    other = inr (inr refl);
  }

-- what each answer says of the test
module _ (b : List ℕ) {r : ℕ} (h : header_good b ≡ true) (a : Audited b r) where
  pub audit_sound : r ≡ 0 → pages_good b ≡ true
  audit_sound e = (accepted b h).1 (a.sound.0 e)

  pub audit_unsound : (r ≡ 0 → ⊥) → pages_good b ≡ false
  audit_unsound s = either (pages_good b) (λ t. absurd (s (a.sound.1 ((accepted b h).0 t)))) (λ t. t)
