-- Laws: entries, heads and bytes of every page, and the file's header, after a page is unlinked from its neighbours, and after it joins the free list. Cited by
-- the laws of removal. Assumes nothing.
use Rattle.std.specs.Prelude.{◌≡◌, refl, true, cond, ℕ, ◌+◌, ◌-◌, ◌^◌, ◌≤◌, ◌<◌, length, replicate, eqb}
use Rattle.std.proofs.Math.Path.{ap}
use Rattle.std.proofs.Common.{◌∙◌, arith, length-append, lit≤, ne_eqb}
use mathlib.Core.List.{List, [], ◌++◌}
use Rattle.std.proofs.lemmas.List.{length-replicate}
use Rattle.basis.specs.Tests.{either, contra}
use Rattle.octets.specs.Bytes.{to_le16, to_le32}
use Rattle.octets.specs.Store.{put, window}
use Rattle.octets.specs.StoreLaws.{length-put, window-before, window-after, window_same}
use Rattle.octets.specs.NumberLaws.{length-to_le32, le32-put, le32-same}
use Rattle.tree.specs.Store.Steps.{write}
use Rattle.idx_page.specs.Header.{page_size, free_place, size_place, free_pointer, is_page}
use Rattle.idx_page.specs.HeaderLaws.{is-page}
use Rattle.idx_page.specs.Page.{attribute_at, count_at, left_at, right_at}
use Rattle.idx_page.proofs.ReadingLaws.{window_in_page}
use Rattle.idx_layout.specs.Layout.{encode, area, new_page, link_beyond, link_before, unlinked, freed}
use Rattle.idx_layout_laws.specs.EntryLaws.{entries_in, page-of, entries-links, entries-header, entries-new}
use Rattle.idx_layout_laws.specs.EntryLaws.{entries-beyond, length-beyond, length-new}
use Rattle.idx_layout_laws.specs.OtherPages.{put-bytes}
use Rattle.idx_layout_laws.specs.HeadLaws.{Head, SameHeader, put_right, put-outside, put-header, new-head, beyond-head, beyond-header}

length_before : (b : List ℕ) (l q : ℕ) → length (link_before b l q) ≡ length b
unfolding link_before
length_before b l q = either (is_page (length b) l) (λ e. rw e (length-put b (l + 8) (to_le32 q))) (λ e. rw e)

pub length-unlinked : (b : List ℕ) (p : ℕ) → length (unlinked b p) ≡ length b
unfolding unlinked
length-unlinked b p = length_before (link_beyond b (right_at b p) (left_at b p)) (left_at b p) (right_at b p) ∙ length-beyond b (right_at b p) (left_at b p)

pub length-freed : (b : List ℕ) (p : ℕ) → length (freed b p) ≡ length b
unfolding freed
length-freed b p = length-put (new_page b p 0 0 (free_pointer b) []) free_place (to_le32 p) ∙ length-new b p 0 0 (free_pointer b) []

-- entries: links hold none, and a page that joins the free list has none
module _ (k : ℕ) where
  entries-before : (b : List ℕ) (l q : ℕ) → entries_in k (link_before b l q) ≡ entries_in k b
  unfolding link_before
  entries-before b l q = either (is_page (length b) l)
      (λ e. rw e (entries-links k b l (l + 8) (to_le32 q) (is-page (length b) l e).whole (omega arith) (omega (arith, length-to_le32 q))))
      (λ e. rw e)

  pub entries-unlinked : (b : List ℕ) (p : ℕ) → entries_in k (unlinked b p) ≡ entries_in k b
  unfolding unlinked
  entries-unlinked b p =
      entries-before (link_beyond b (right_at b p) (left_at b p)) (left_at b p) (right_at b p) ∙ entries-beyond k b (right_at b p) (left_at b p)

  pub entries-freed : (b : List ℕ) (p : ℕ) → is_page (length b) p ≡ true → entries_in k (freed b p) ≡ write (entries_in k b) p []
  unfolding freed
  entries-freed b p t =
      entries-header k (new_page b p 0 0 (free_pointer b) []) free_place (to_le32 p) (omega (arith, length-to_le32 p))
      ∙ entries-new k b p 0 0 (free_pointer b) [] t tt (omega arith)

-- heads: the neighbours of an unlinked page become neighbours of each other
before_head : (b : List ℕ) (l q : ℕ) → q < 2 ^ 32 → (z : ℕ) → is_page (length b) z ≡ true
    → Head (link_before b l q) z (attribute_at b z) (count_at b z) (left_at b z) (cond (eqb z l) q (right_at b z))
unfolding link_before
before_head b l q q32 z tz = either (is_page (length b) l)
    (λ e. rw e (put_right b l e z tz q q32))
    (λ e. rw (e, ne_eqb z l (λ u. contra tz (ap (is_page (length b)) u ∙ e)))
    (record { attribute_is = refl; count_is = refl; left_is = refl; right_is = refl }))

before-header : (b : List ℕ) (l q : ℕ) → SameHeader b (link_before b l q)
unfolding link_before
before-header b l q = either (is_page (length b) l)
    (λ e. rw e (put-outside b (l + 8) (to_le32 q) (omega (arith, (is-page (length b) l e).low))))
    (λ e. rw e)

module _ (b : List ℕ) (p : ℕ) (l32 : left_at b p < 2 ^ 32) (r32 : right_at b p < 2 ^ 32) where
  pub unlinked-head : (z : ℕ) → is_page (length b) z ≡ true → Head (unlinked b p) z (attribute_at b z) (count_at b z)
      (cond (eqb z (right_at b p)) (left_at b p) (left_at b z)) (cond (eqb z (left_at b p)) (right_at b p) (right_at b z))
  unfolding unlinked
  unlinked-head z tz =
      let l = left_at b p in
      let r = right_at b p in
      let b1 = link_beyond b r l in
      let s1 = beyond-head 0 b r l l32 z tz in
      let s2 = before_head b1 l r r32 z (page-of z (length-beyond b r l) tz) in
      record {
        attribute_is = s2.attribute_is ∙ s1.attribute_is;
        count_is = s2.count_is ∙ s1.count_is;
        left_is = s2.left_is ∙ s1.left_is;
        right_is = s2.right_is ∙ ap (cond (eqb z l) r) s1.right_is;
      }

  pub unlinked-header : SameHeader b (unlinked b p)
  unfolding unlinked
  unlinked-header = before-header (link_beyond b (right_at b p) (left_at b p)) (left_at b p) (right_at b p) ∙ beyond-header 0 b (right_at b p) (left_at b p) l32

-- a page that joins the free list has the head of a free page, and no other head changes
module _ (b : List ℕ) (p : ℕ) (tp : is_page (length b) p ≡ true) (next32 : free_pointer b < 2 ^ 32) where
  pub freed-head : (z : ℕ) → is_page (length b) z ≡ true → Head (freed b p) z (cond (eqb z p) 0 (attribute_at b z)) (cond (eqb z p) 0 (count_at b z))
      (cond (eqb z p) 0 (left_at b z)) (cond (eqb z p) (free_pointer b) (right_at b z))
  unfolding freed
  freed-head z tz =
      let next = free_pointer b in
      let b1 = new_page b p 0 0 next [] in
      let s1 = new-head 0 b p 0 0 next [] tp (omega arith) (omega arith) next32 tt (omega arith) z tz in
      let s2 = put-header b1 free_place (to_le32 p) (omega (arith, length-to_le32 p)) z (page-of z (length-new b p 0 0 next []) tz) in
      record {
        attribute_is = s2.attribute_is ∙ s1.attribute_is;
        count_is = s2.count_is ∙ s1.count_is;
        left_is = s2.left_is ∙ s1.left_is;
        right_is = s2.right_is ∙ s1.right_is;
      }

-- the header but for its free pointer
pub record SameButFree (b b' : List ℕ) : Type 0 where
  pub before : window b' 0 free_place ≡ window b 0 free_place
  pub after : window b' size_place (page_size - size_place) ≡ window b size_place (page_size - size_place)

pub same-header : (b b' : List ℕ) → SameHeader b b' → SameButFree b b'
same-header b b' e = record { before = window_in_page b' b 0 e 0 4 (lit≤ tt); after = window_in_page b' b 0 e 8 504 (lit≤ tt) }

pub same-free : (b b' : List ℕ) → SameHeader b b' → free_pointer b' ≡ free_pointer b
same-free b b' e = le32-same b' b 4 (window_in_page b' b 0 e 4 4 (lit≤ tt))

-- the header names the page that joins the free list, and is otherwise as it was
module _ (b : List ℕ) (p : ℕ) (tp : is_page (length b) p ≡ true) where
  freed-outside : SameHeader b (new_page b p 0 0 (free_pointer b) [])
  unfolding new_page
  freed-outside = put-outside b p _ (is-page (length b) p tp).low

  pub freed-header : SameButFree b (freed b p)
  unfolding freed
  freed-header =
      let b1 = new_page b p 0 0 (free_pointer b) [] in
      let s = same-header b b1 freed-outside in
      let n = length-to_le32 p in
      record {
        before = window-before b1 free_place (to_le32 p) 0 free_place (omega arith) ∙ s.before;
        after = window-after b1 free_place (to_le32 p) size_place (page_size - size_place) (omega arith) ∙ s.after;
      }

  pub freed-free : p < 2 ^ 32 → free_pointer (freed b p) ≡ p
  unfolding freed
  freed-free p32 =
      let g = is-page (length b) p tp in
      le32-put (new_page b p 0 0 (free_pointer b) []) free_place p p32 (omega (arith, length-new b p 0 0 (free_pointer b) [], g.low, g.high))

-- the bytes of a free page: "zero but for bytes 8-11, which name the next or none"
abbrev pub free_page : ℕ → List ℕ
free_page next = replicate 8 0 ++ (to_le32 next ++ replicate 500 0)

free-page_is : (b : List ℕ) (p next : ℕ) → new_page b p 0 0 next [] ≡ put b p (free_page next)
unfolding new_page area encode to_le16 to_le32
free-page_is b p next = refl

length-free : (next : ℕ) → length (free_page next) ≡ page_size
length-free next = simp (length-append, length-replicate) (omega (arith, length-to_le32 next))

-- bytes: a page that is neither unlinked nor freed nor a neighbour keeps all of them, and a page that joins the free list gets those of a free page
module _ (b : List ℕ) (z : ℕ) (tz : is_page (length b) z ≡ true) where
  beyond-bytes : (r q : ℕ) → (z ≡ r → ⊥) → window (link_beyond b r q) z page_size ≡ window b z page_size
  unfolding link_beyond
  beyond-bytes r q ne = either (is_page (length b) r)
      (λ e. rw e (put-bytes b r e z tz ne (r + 4) (to_le32 q) (omega arith) (omega (arith, length-to_le32 q))))
      (λ e. rw e)

  before-bytes : (l q : ℕ) → (z ≡ l → ⊥) → window (link_before b l q) z page_size ≡ window b z page_size
  unfolding link_before
  before-bytes l q ne = either (is_page (length b) l)
      (λ e. rw e (put-bytes b l e z tz ne (l + 8) (to_le32 q) (omega arith) (omega (arith, length-to_le32 q))))
      (λ e. rw e)

  pub freed-bytes : (p : ℕ) → is_page (length b) p ≡ true → (z ≡ p → ⊥) → window (freed b p) z page_size ≡ window b z page_size
  unfolding freed
  freed-bytes p tp ne =
      let next = free_pointer b in
      let g = (is-page (length b) z tz).low in
      rw (free-page_is b p next)
      (window-after (put b p (free_page next)) free_place (to_le32 p) z page_size (omega (arith, length-to_le32 p))
      ∙ put-bytes b p tp z tz ne p (free_page next) (omega arith) (omega (arith, length-free next)))

  pub freed-own : window (freed b z) z page_size ≡ free_page (free_pointer b)
  unfolding freed
  freed-own =
      let next = free_pointer b in
      let g = is-page (length b) z tz in
      rw (free-page_is b z next)
      (window-after (put b z (free_page next)) free_place (to_le32 z) z page_size (omega (arith, length-to_le32 z, g.low))
      ∙ window_same b z (free_page next) page_size (length-free next) g.high)

pub unlinked-bytes : (b : List ℕ) (p z : ℕ) → is_page (length b) z ≡ true → (z ≡ left_at b p → ⊥) → (z ≡ right_at b p → ⊥)
    → window (unlinked b p) z page_size ≡ window b z page_size
unfolding unlinked
unlinked-bytes b p z tz nl nr =
    let b1 = link_beyond b (right_at b p) (left_at b p) in
    before-bytes b1 z (page-of z (length-beyond b (right_at b p) (left_at b p)) tz) (left_at b p) (right_at b p) nl
    ∙ beyond-bytes b z tz (right_at b p) (left_at b p) nr
