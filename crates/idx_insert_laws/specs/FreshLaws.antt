-- Laws: a fresh index is sound and empty. Cited by the claim about lists of calls. Assumes nothing.
use Rattle.std.specs.Prelude.{◌≡◌, refl, true, cond, ℕ, ◌+◌, ◌^◌, ◌≤◌, ◌<◌, min, eqb, length}
use Rattle.std.proofs.Math.Path.{sym, ap}
use Rattle.std.proofs.Common.{ap₂, ◌∙◌, subst, arith, length-append}
use mathlib.Core.List.{List, [], map}
use Rattle.std.proofs.Math.ListN.{get_or}
use Rattle.std.proofs.lemmas.List.{length-replicate}
use borrow.Author.Tests.{leb-true}
use Rattle.basis.specs.Lists.{All}
use Rattle.basis.specs.Tests.{both}
use Rattle.octets.specs.Bytes.{le16, le32, to_le16, to_le32}
use Rattle.octets.specs.Store.{put, window}
use Rattle.octets.specs.StoreLaws.{length-put, window_same, get_d_window}
use Rattle.octets.specs.NumberLaws.{length-to_le16, length-to_le32, le16-same, le32-same}
use Rattle.tree.specs.Clauses.{AllLinked}
use Rattle.tree.specs.Index.{fresh}
use Rattle.tree.proofs.IndexLaws.{fresh-sound}
use Rattle.tree.proofs.SoundIndex.{SoundIndex}
use Rattle.tree.specs.Store.{Store, read_entry}
use Rattle.tree.proofs.Store.Laws.{write-here}
use Rattle.tree.specs.Tree.{Tree, pages, level}
use Rattle.idx_page.specs.Header.{min_bytes, max_bytes, max_key, no_page, page_size, is_page, header_good}
use Rattle.idx_page.specs.Header.{root_offset, free_pointer, file_size, key_length, features, key_length_good}
use Rattle.idx_page.specs.HeaderLaws.{is_page-from, good-header-from}
use Rattle.idx_page.specs.Page.{attribute_at, count_at, left_at, right_at, root_bit, leaf_bit, capacity}
use Rattle.idx_page.specs.Reading.{entries_at}
use Rattle.idx_page.proofs.ReadingLaws.{window-window}
use Rattle.idx_layout.specs.WriteLaws.{capacity-least}
use Rattle.idx_sound.specs.Sound.{index_tree, links_of, Sound}
use Rattle.idx_sound.proofs.IndexLaws.{index_of, setting_of, index-sound}
use Rattle.idx_insert.specs.CallLaws.{expression-most, features-most}
use Rattle.idx_insert.specs.Fresh.{max_expression, expression_good, features_good, fresh_header, fresh_buffer}
use Rattle.idx_layout_laws.specs.EntryLaws.{entries_in, page-of, entries-new, length-new}
use Rattle.idx_layout_laws.specs.HeadLaws.{Head, SameHead, put-header, new-head, new-header}
use Rattle.idx_insert_laws.specs.InsertionHeads.{Plain, one_of}
use Rattle.idx_insert_laws.specs.SoundReading.{entries_longer}
use Rattle.idx_insert_laws.specs.FreePages.{none-good}

-- what fresh is given if it is accepted
pub record FreshGiven (k f : ℕ) (e b : List ℕ) : Type 0 where
  pub key : key_length_good k ≡ true
  pub expression : expression_good e ≡ true
  pub told : features_good f ≡ true
  pub room : min_bytes ≤ length b
  pub plain : Plain b

module _ (k f : ℕ) (e b : List ℕ) (given : FreshGiven k f e b) where
  abbrev b0 : List ℕ
  b0 = put b 0 (fresh_header k f e)

  abbrev b'' : List ℕ
  b'' = fresh_buffer k f e b

  short : length e ≤ max_expression
  short = expression-most e given.expression

  key_fits : (1 ≤ k) × (k ≤ max_key)
  unfolding key_length_good
  key_fits = let t = both _ _ given.key in (leb-true _ _ t.0, leb-true _ _ t.1)

  length-header : length (fresh_header k f e) ≡ page_size
  unfolding fresh_header
  length-header = simp (length-append, length-to_le32, length-to_le16, length-replicate) (omega (arith, short))

  l0 : length b0 ≡ length b
  l0 = length-put b 0 (fresh_header k f e)

  first : is_page (length b) page_size ≡ true
  first = is_page-from (length b) page_size (record { whole = refl; low = omega arith; high = omega (arith, given.room) })

  few : 0 ≤ capacity k
  few = omega arith

  long : length b'' ≡ length b
  unfolding fresh_buffer
  long = length-new b0 page_size 3 no_page no_page [] ∙ l0

  -- the bytes of the header
  header : window b'' 0 page_size ≡ fresh_header k f e
  unfolding fresh_buffer
  header =
      new-header k b0 page_size 3 no_page no_page [] (page-of page_size l0 first) (omega arith) (omega arith) (omega arith) tt few
      ∙ window_same b 0 (fresh_header k f e) page_size length-header (omega (arith, given.room))

  part : (i n : ℕ) → i + n ≤ page_size → window b'' (0 + i) n ≡ window (fresh_header k f e) i n
  part i n l = sym (window-window b'' 0 page_size i n l) ∙ ap (λ (w : List ℕ). window w i n) header

  root_is : root_offset b'' ≡ page_size
  unfolding le32 fresh_header to_le32
  root_is = le32-same b'' (fresh_header k f e) 0 (part 0 4 (omega arith))

  size_is : file_size b'' ≡ min_bytes
  unfolding le32 fresh_header to_le32
  size_is = le32-same b'' (fresh_header k f e) 8 (part 8 4 (omega arith))

  free_is : free_pointer b'' ≡ no_page
  unfolding le32 fresh_header to_le32
  free_is = le32-same b'' (fresh_header k f e) 4 (part 4 4 (omega arith))

  key-is : key_length b'' ≡ k
  unfolding le16 fresh_header to_le32 to_le16
  key-is = le16-same b'' (fresh_header k f e) 12 (part 12 2 (omega arith)) ∙ omega (arith, key_fits.1)

  features-are : features b'' ≡ f
  unfolding fresh_header to_le32 to_le16
  features-are = sym (get_d_window b'' 0 page_size 14 0 (omega arith)) ∙ ap (λ (w : List ℕ). get_or w 14 0) header

  -- the heads of all pages: the root is the page at 512
  heads : (z : ℕ) → is_page (length b) z ≡ true
      → Head b'' z (cond (eqb z page_size) 3 (attribute_at b0 z)) (cond (eqb z page_size) 0 (count_at b0 z)) (cond (eqb z page_size) no_page (left_at b0 z))
      (cond (eqb z page_size) no_page (right_at b0 z))
  unfolding fresh_buffer
  heads z t = new-head k b0 page_size 3 no_page no_page [] (page-of page_size l0 first) (omega arith) (omega arith) (omega arith) tt few z (page-of z l0 t)

  entries_are : entries_in k b'' page_size ≡ []
  unfolding fresh_buffer
  entries_are =
      ap (λ (S : Store (List ℕ)). S page_size) (entries-new k b0 page_size 3 no_page no_page [] (page-of page_size l0 first) tt few)
      ∙ write-here (entries_in k b0) page_size []

  tree_is : index_tree b'' 0 ≡ (page_size, [])
  tree_is =
      let none : entries_at k min_bytes b'' page_size ≡ [] =
      sym (entries_longer k min_bytes b'' page_size (rw long given.room)
      (is_page-from min_bytes page_size (record { whole = refl; low = omega arith; high = omega arith }))) ∙ entries_are in
      rw (key-is, size_is, root_is) (ap (λ (l : List (List ℕ × ℕ)). (page_size, map (read_entry (entries_at k min_bytes b'') 0) l)) none)

  index_is : index_of b'' 0 [] ≡ fresh
  index_is = λ i. record { height = 0; tree = tree_is i; free = []; size = size_is i }

  header-good : header_good b'' ≡ true
  header-good = good-header-from b'' (record {
    long = rw long (omega (arith, given.room));
    whole = rw size_is;
    least = rw size_is (omega arith);
    most = rw size_is (omega arith);
    within = rw (size_is, long) given.room;
    root = rw (size_is, root_is) (is_page-from min_bytes page_size (record { whole = refl; low = omega arith; high = omega arith }));
    key-low = rw key-is key_fits.0;
    key-high = rw key-is key_fits.1;
    free = rw free_is (none-good (file_size b''));
    plain = rw features-are (features-most f given.told);
  })

  as_tree : (P : Tree (List ℕ) 0 → Type 0) → P (page_size, []) → P (index_tree b'' 0)
  as_tree P p = subst P (sym tree_is) p

  at_first : Head b'' page_size 3 0 no_page no_page
  at_first = heads page_size first

  sound_is : (s : Sound b'') × (s.height ≡ 0) × (s.free ≡ [])
  sound_is =
      let most : ℕ = min (length b) max_bytes in
      let ps : List ℕ = pages 0 (index_tree b'' 0) in
      let sound : SoundIndex (setting_of (features b'') (key_length b'') most) (index_of b'' 0 []) =
      subst (SoundIndex (setting_of (features b'') (key_length b'') most)) (sym index_is)
      (fresh-sound (setting_of (features b'') (key_length b'') most) (rw key-is (omega (arith, capacity-least k key_fits.1))) (omega (arith, given.room))
      (omega arith)) in
      index-sound b'' 0 [] most header-good sound
      (as_tree (λ t. AllLinked no_page (links_of b'') 0 t) (λ j l. let j0 : j ≡ 0 = omega arith in rw j0 (at_first.left_is, at_first.right_is, tt)))
      (as_tree (λ t. All (λ p. attribute_at b'' p ≤ 3) (pages 0 t)) (rw at_first.attribute_is (omega arith), tt))
      (as_tree (λ t. All (λ p. root_bit (attribute_at b'' p) ≡ eqb p (root_offset b'')) (pages 0 t)) (rw (at_first.attribute_is, root_is), tt))
      (λ j l. let j0 : j ≡ 0 = omega arith in as_tree (λ t. All (λ p. leaf_bit (attribute_at b'' p) ≡ eqb j 0) (level j 0 t))
      (rw j0 (rw at_first.attribute_is, tt)))
      (as_tree (λ t. All (λ p. count_at b'' p ≤ capacity (key_length b'')) (pages 0 t)) (rw at_first.count_is (omega arith), tt))
      free_is tt

  plain_is : Plain b''
  plain_is z t =
      let p : is_page (length b) z ≡ true = page-of z (sym long) t in
      let h = heads z p in
      let g : SameHead b b0 z = put-header b 0 (fresh_header k f e) (omega (arith, length-header)) z p in (
        rw h.attribute_is (one_of (λ n. n < 2 ^ 16) (eqb z page_size) 3 (attribute_at b0 z) (omega arith) (rw g.attribute_is (given.plain z p).0)),
        rw h.right_is (one_of (λ n. n < 2 ^ 32) (eqb z page_size) no_page (right_at b0 z) (omega arith) (rw g.right_is (given.plain z p).1)),
      )

-- what fresh leaves: a sound index without pairs and without free pages
pub record FreshIs (k f : ℕ) (e b : List ℕ) : Type 0 where
  pub sound : Sound (fresh_buffer k f e b)
  pub index : index_of (fresh_buffer k f e b) sound.height sound.free ≡ fresh
  pub key_is : key_length (fresh_buffer k f e b) ≡ k
  pub features_are : features (fresh_buffer k f e b) ≡ f
  pub as_long : length (fresh_buffer k f e b) ≡ length b
  pub plain : Plain (fresh_buffer k f e b)

-- Theorem: a fresh index is sound and empty
pub fresh_is_sound : (k f : ℕ) (e b : List ℕ) → FreshGiven k f e b → FreshIs k f e b
fresh_is_sound k f e b given =
    let s = sound_is k f e b given in
    record {
      sound = s.0;
      index = ap₂ (index_of (fresh_buffer k f e b)) s.1 s.2 ∙ index_is k f e b given;
      key_is = key-is k f e b given;
      features_are = features-are k f e b given;
      as_long = long k f e b given;
      plain = plain_is k f e b given;
    }
