-- Laws: attributes, links and counts of all pages, and the header, after removal's steps on bytes: emptied pages were unlinked, one after another, and no other
-- link and no attribute of a page that stays changed. Cited by the laws of the whole buffer. Assumes nothing.
use Rattle.std.specs.Prelude.{◌≡◌, refl, Bool, false, cond, List, [], ◌∷◌, ◌++◌, ℕ, ◌+◌, ◌^◌, ◌≤◌, ◌<◌, eqb}
use Rattle.std.proofs.Common.{ap, ◌∙◌, arith, lt-ltb, ne_eqb}
use Rattle.std.proofs.Math.Bool.{true}
use Rattle.std.proofs.Math.ListN.{length}
use Rattle.basis.specs.Lists.{All}
use Rattle.tree.specs.Clauses.{Links}
use Rattle.tree.proofs.Insertion.Pages.{Distinct}
use Rattle.tree.specs.Lists.{occ}
use Rattle.tree.proofs.ListLaws.{occ_append, occ-head}
use Rattle.tree.specs.Store.{read_tree}
use Rattle.tree.specs.Tree.{pages}
use Rattle.tree.specs.Unlinking.{unlink, unlink_all}
use Rattle.idx_page.specs.Header.{free_pointer, is_page}
use Rattle.idx_page.specs.Reading.{Item}
use Rattle.idx_page.specs.Page.{attribute_at, count_at, left_at, right_at, capacity}
use Rattle.idx_leaf.specs.Leaf.{items_in}
use Rattle.idx_layout.specs.Layout.{unlinked, freed}
use Rattle.idx_entries.specs.Entries.{without_entry}
use Rattle.idx_leaf.specs.ItemLaws.{Fit}
use Rattle.idx_leaf.specs.EntryLaws.{items_in_fit}
use Rattle.idx_entries.proofs.FitLaws.{without_all, length_without}
use Rattle.idx_sound.specs.Sound.{links_of}
use Rattle.idx_remove_page.specs.Removal.{take_out, remove_under}
use Rattle.idx_layout_laws.specs.EntryLaws.{entries_in, Usable, page-of, items-few}
use Rattle.idx_layout_laws.specs.HeadLaws.{with_head, with_header}
use Rattle.idx_layout_laws.specs.FreeLaws.{SameButFree, same-header, same-free, length-unlinked, unlinked-head, unlinked-header}
use Rattle.idx_layout_laws.specs.FreeLaws.{freed-head, freed-header, freed-free}
use Rattle.idx_remove_laws.specs.RemovalEntries.{emptied_from, Filled}
use Rattle.idx_remove_laws.specs.RemovalInduction.{Inside, StepsKeep, remove-keeps}

-- the links of the pages qs, and the free pointer, are numbers of four bytes
pub record Plain (qs b : List ℕ) : Type 0 where
  pub links : (z : ℕ) → 0 < occ z qs → (left_at b z < 2 ^ 32) × (right_at b z < 2 ^ 32)
  pub free : free_pointer b < 2 ^ 32

-- b' is b after the pages ps, which are pages of the list qs, were unlinked, one after another, and became free, and no other change of heads: of a page that
-- stays
pub record Heads (k : ℕ) (qs ps : List ℕ) (b b' : List ℕ) : Type 0 where
  pub lefts : (z : ℕ) → is_page (length b) z ≡ true → occ z ps ≡ 0 → left_at b' z ≡ (unlink_all ps (links_of b)).left z
  pub rights : (z : ℕ) → is_page (length b) z ≡ true → occ z ps ≡ 0 → right_at b' z ≡ (unlink_all ps (links_of b)).right z
  pub attributes : (z : ℕ) → is_page (length b) z ≡ true → occ z ps ≡ 0 → attribute_at b' z ≡ attribute_at b z
  -- counts that are within the capacity stay so
  pub counts : (z : ℕ) → is_page (length b) z ≡ true → count_at b z ≤ capacity k → count_at b' z ≤ capacity k
  pub header : SameButFree b b'
  pub plain : Plain qs b'

-- pages that are unlinked one after another, the last of them last
unlink_all-last : (ps : List ℕ) (c : ℕ) (l : Links) → unlink_all (ps ++ (c ∷ [])) l ≡ unlink c (unlink_all ps l)
unlink_all-last [] c l = refl
unlink_all-last (p ∷ ps) c l = unlink_all-last ps c (unlink p l)

one_of : (P : ℕ → Type 0) (s : Bool) (x y : ℕ) → P x → P y → P (cond s x y)
one_of P true x y i j = i
one_of P false x y i j = j

module _ (k : ℕ) (qs b : List ℕ) (inside-qs : (z : ℕ) → 0 < occ z qs → is_page (length b) z ≡ true) where
  heads-none : Plain qs b → Heads k qs [] b b
  heads-none plain = record {
    lefts = λ z t o. refl;
    rights = λ z t o. refl;
    attributes = λ z t o. refl;
    counts = λ z t c. c;
    header = record { before = refl; after = refl };
    plain = plain;
  }

  -- an entry goes from a page
  heads-taken : (ps b' : List ℕ) (p i : ℕ) → length b' ≡ length b → is_page (length b') p ≡ true → i < length (items_in k b' p) → Heads k qs ps b b'
      → Heads k qs ps b (take_out k b' p i).after
  unfolding take_out
  heads-taken ps b' p i n tp l v =
      let es = items_in k b' p in
      let fewer = without_entry i es in
      let fit : All (Fit k) fewer = without_all (Fit k) i es (items_in_fit k b' p) in
      let few : length fewer ≤ capacity k = omega (arith, length_without i es l, items-few k b' p) in
      let here : (z : ℕ) → is_page (length b) z ≡ true → is_page (length b') z ≡ true = λ z t. page-of z n t in
      let s = with_head k b' p fewer tp fit few in
      let same = with_header k b' p fewer tp fit few in
      let out = same-header b' _ same in
      rw (lt-ltb i (length es) l) (record {
        lefts = λ z t o. (s z (here z t)).left_is ∙ v.lefts z t o;
        rights = λ z t o. (s z (here z t)).right_is ∙ v.rights z t o;
        attributes = λ z t o. (s z (here z t)).attribute_is ∙ v.attributes z t o;
        counts = λ z t c. rw (s z (here z t)).count_is (one_of (λ m. m ≤ capacity k) (eqb z p) (length fewer) (count_at b' z) few (v.counts z t c));
        header = record { before = out.before ∙ v.header.before; after = out.after ∙ v.header.after };
        plain = record {
          links = λ z o. let u = here z (inside-qs z o) in rw ((s z u).left_is, (s z u).right_is) (v.plain.links z o);
          free = rw (same-free b' _ same) v.plain.free;
        };
      })

  -- one page more is unlinked and becomes free
  heads-out : (ps b' : List ℕ) (c : ℕ) → length b' ≡ length b → Usable b c → 0 < occ c qs → occ c ps ≡ 0 → Heads k qs ps b b'
      → Heads k qs (ps ++ (c ∷ [])) b (freed (unlinked b' c) c)
  heads-out ps b' c n tc qc oc v =
      let b1 = unlinked b' c in
      let n1 : length b1 ≡ length b' = length-unlinked b' c in
      let here : (z : ℕ) → is_page (length b) z ≡ true → is_page (length b') z ≡ true = λ z t. page-of z n t in
      let own = v.plain.links c qc in
      let tc1 : is_page (length b1) c ≡ true = page-of c n1 (here c tc.0) in
      let same = unlinked-header b' c own.0 own.1 in
      let free1 : free_pointer b1 < 2 ^ 32 = rw (same-free b' b1 same) v.plain.free in
      let s1 = unlinked-head b' c own.0 own.1 in
      let s2 = freed-head b1 c tc1 free1 in
      let there : (z : ℕ) → is_page (length b) z ≡ true → is_page (length b1) z ≡ true = λ z t. page-of z n1 (here z t) in
      let earlier : (z : ℕ) → occ z (ps ++ (c ∷ [])) ≡ 0 → (occ z ps ≡ 0) × (eqb z c ≡ false) = earlier_than ps c in
      let out = same-header b' b1 same in
      let last = freed-header b1 c tc1 in
      record {
        lefts = λ z t o. let e = earlier z o in
            (s2 z (there z t)).left_is ∙ rw (e.1, unlink_all-last ps c (links_of b))
            ((s1 z (here z t)).left_is ∙ rw (v.lefts c tc.0 oc, v.rights c tc.0 oc, v.lefts z t e.0));
        rights = λ z t o. let e = earlier z o in
            (s2 z (there z t)).right_is ∙ rw (e.1, unlink_all-last ps c (links_of b))
            ((s1 z (here z t)).right_is ∙ rw (v.lefts c tc.0 oc, v.rights c tc.0 oc, v.rights z t e.0));
        attributes = λ z t o. let e = earlier z o in (s2 z (there z t)).attribute_is ∙ rw e.1 ((s1 z (here z t)).attribute_is ∙ v.attributes z t e.0);
        counts = λ z t m.
            rw ((s2 z (there z t)).count_is, (s1 z (here z t)).count_is)
            (one_of (λ j. j ≤ capacity k) (eqb z c) 0 (count_at b' z) (omega arith) (v.counts z t m));
        header = record { before = last.before ∙ out.before ∙ v.header.before; after = last.after ∙ out.after ∙ v.header.after };
        plain = record {
          links = λ z o.
              let u = here z (inside-qs z o) in
              let u1 = page-of z n1 u in
              let w = v.plain.links z o in (
                rw ((s2 z u1).left_is, (s1 z u).left_is) (one_of (λ j. j < 2 ^ 32) (eqb z c) 0 _ (omega arith)
                    (one_of (λ j. j < 2 ^ 32) (eqb z (right_at b' c)) (left_at b' c) (left_at b' z) own.0 w.0)),
                rw ((s2 z u1).right_is, (s1 z u).right_is) (one_of (λ j. j < 2 ^ 32) (eqb z c) (free_pointer b1) _ free1
                    (one_of (λ j. j < 2 ^ 32) (eqb z (left_at b' c)) (right_at b' c) (right_at b' z) own.1 w.1)),
              );
          free = rw (freed-free b1 c tc1 tc.1) tc.1;
        };
      }
    where
      earlier_than : (ps : List ℕ) (c z : ℕ) → occ z (ps ++ (c ∷ [])) ≡ 0 → (occ z ps ≡ 0) × (eqb z c ≡ false)
      earlier_than ps c z o =
          let both = occ_append z ps (c ∷ []) in
          (omega arith, ne_eqb z c (λ e. let one = occ-head z [] in absurd (omega (arith, ap (λ x. occ z (x ∷ [])) e))))

-- a list qs of pages of the buffer
module _ (k : ℕ) (b qs : List ℕ) (inside-qs : (z : ℕ) → 0 < occ z qs → is_page (length b) z ≡ true) (plain : Plain qs b) where
  -- both steps of a removal keep what is said of heads
  pub heads_keep : StepsKeep k qs b (λ ps b'. Heads k qs ps b b')
  heads_keep = record {
    none = heads-none k qs b inside-qs plain;
    taken = λ ps b' p i n t l o np v. heads-taken k qs b inside-qs ps b' p i n (page-of p n t) l v;
    out = λ ps b' c n t o nc v. heads-out k qs b inside-qs ps b' c n t o nc v;
  }

  -- Theorem: removal's step unlinks the emptied pages and frees them, and changes no other head
  pub remove-heads : (item : Item) → length item.0 ≡ k → (h left p : ℕ) → h < left → Filled k h b p → Distinct (pages h (read_tree (entries_in k b) h p))
      → Inside k b qs h p → Heads k qs (emptied_from b item (entries_in k b) h p) b (remove_under k left b item p).after
  remove-heads item = remove-keeps k item b qs (λ ps b'. Heads k qs ps b b') heads_keep
