-- Laws: what a good header and the offset of a page say, taken apart and put together. Cited by the proofs of every call on an index. Assumes nothing.
use Rattle.std.specs.Prelude.{ℕ, ◌+◌, ◌%◌, ◌≤◌, ◌≡◌, true, List, length}
use Rattle.std.proofs.Common.{leb-true, eqb-true, le-leb, eq-eqb}
use Rattle.basis.specs.Tests.{both, join}
use Rattle.idx_page.specs.Header.{min_bytes, max_bytes, max_key, page_size, root_offset, free_pointer, file_size, key_length, features, max_features}
use Rattle.idx_page.specs.Header.{is_page, size_good, key_length_good, free_good, header_good}

-- the offset of a page other than the first
pub record IsPage (size p : ℕ) : Type 0 where
  pub whole : p % page_size ≡ 0
  pub low : page_size ≤ p
  pub high : p + page_size ≤ size

pub is-page : (size p : ℕ) → is_page size p ≡ true → IsPage size p
unfolding is_page
is-page size p e =
    let t = both _ _ e in
    let u = both _ _ t.1 in
    record { whole = eqb-true _ _ t.0; low = leb-true _ _ u.0; high = leb-true _ _ u.1 }

pub is_page-from : (size p : ℕ) → IsPage size p → is_page size p ≡ true
unfolding is_page
is_page-from size p h = join _ _ (eq-eqb _ _ h.whole) (join _ _ (le-leb _ _ h.low) (le-leb _ _ h.high))

-- a good key length
pub good-key-length : (k : ℕ) → key_length_good k ≡ true → (1 ≤ k) × (k ≤ max_key)
unfolding key_length_good
good-key-length k e = let t = both _ _ e in (leb-true _ _ t.0, leb-true _ _ t.1)

-- a good header
pub record GoodHeader (b : List ℕ) : Type 0 where
  pub long : page_size ≤ length b
  pub whole : file_size b % page_size ≡ 0
  pub least : min_bytes ≤ file_size b
  pub most : file_size b ≤ max_bytes
  pub within : file_size b ≤ length b
  pub root : is_page (file_size b) (root_offset b) ≡ true
  pub key-low : 1 ≤ key_length b
  pub key-high : key_length b ≤ max_key
  pub free : free_good (file_size b) (free_pointer b) ≡ true
  pub plain : features b ≤ max_features

pub good-header : (b : List ℕ) → header_good b ≡ true → GoodHeader b
unfolding header_good size_good
good-header b e =
    let t1 = both _ _ e in
    let t2 = both _ _ t1.1 in
    let t3 = both _ _ t2.1 in
    let t4 = both _ _ t3.1 in
    let t5 = both _ _ t4.1 in
    let s1 = both _ _ t2.0 in
    let s2 = both _ _ s1.1 in
    let s3 = both _ _ s2.1 in
    let k = good-key-length (key_length b) t4.0 in
    record {
      long = leb-true _ _ t1.0;
      whole = eqb-true _ _ s1.0;
      least = leb-true _ _ s2.0;
      most = leb-true _ _ s3.0;
      within = leb-true _ _ s3.1;
      root = t3.0;
      key-low = k.0;
      key-high = k.1;
      free = t5.0;
      plain = leb-true _ _ t5.1;
    }

pub good-header-from : (b : List ℕ) → GoodHeader b → header_good b ≡ true
unfolding header_good size_good key_length_good
good-header-from b h =
    join _ _ (le-leb _ _ h.long)
    (join _ _ (join _ _ (eq-eqb _ _ h.whole) (join _ _ (le-leb _ _ h.least) (join _ _ (le-leb _ _ h.most) (le-leb _ _ h.within))))
    (join _ _ h.root
    (join _ _ (join _ _ (le-leb _ _ h.key-low) (le-leb _ _ h.key-high))
    (join _ _ h.free (le-leb _ _ h.plain)))))
