-- Laws: what a good header and the number of a page say, taken apart and put together. Assumes nothing.
use Rattle.std.specs.Prelude.{ℕ, ◌+◌, ◌*◌, ◌^◌, ◌≤◌, ◌<◌, ◌≡◌, true, false, List, length, leb}
use Rattle.std.proofs.Math.Path.{subst⁻¹}
use Rattle.std.proofs.Common.{le_of_lt, lt_of_le_of_lt, mul-le-mul_left, mul-lt-mul_of_pos_right, arith, pow_pos, pow-add, leb-true, ltb-true, eqb-true}
use Rattle.std.proofs.Common.{le-leb, lt-ltb}
use Rattle.std.proofs.lemmas.Bool.{lt-leb}
use Rattle.basis.specs.Tests.{both, join}
use Rattle.idx_page.specs.HeaderLaws.{good-key-length}
use Rattle.ndx_page.specs.Header.{page_size, max_bytes, max_key, root_page, page_count, key_length, keys_per_page, key_type, entry_size, character_keys}
use Rattle.ndx_page.specs.Header.{entry_area}
use Rattle.ndx_page.specs.Header.{is_page, pages_good, entry_size_of, keys_good, header_good}

-- the number of a page other than the first
pub is-page : (pages p : ℕ) → is_page pages p ≡ true → (1 ≤ p) × (p < pages)
unfolding is_page
is-page pages p e = let t = both _ _ e in (leb-true _ _ t.0, ltb-true _ _ t.1)

pub is_page-from : (pages p : ℕ) → 1 ≤ p → p < pages → is_page pages p ≡ true
unfolding is_page
is_page-from pages p l u = join _ _ (le-leb _ _ l) (lt-ltb _ _ u)

-- a good header
pub record GoodHeader (b : List ℕ) : Type 0 where
  pub long : page_size ≤ length b
  pub character : key_type b ≡ character_keys
  pub within : page_count b * page_size ≤ length b
  pub most : page_count b * page_size ≤ max_bytes
  pub root : is_page (page_count b) (root_page b) ≡ true
  pub key-low : 1 ≤ key_length b
  pub key-high : key_length b ≤ max_key
  pub entry : entry_size b ≡ entry_size_of (key_length b)
  pub some : 1 ≤ keys_per_page b
  pub fit : keys_per_page b * entry_size b ≤ entry_area

pub good-header : (b : List ℕ) → header_good b ≡ true → GoodHeader b
unfolding header_good pages_good keys_good
good-header b e =
    let t1 = both _ _ e in
    let t2 = both _ _ t1.1 in
    let t3 = both _ _ t2.1 in
    let t4 = both _ _ t3.1 in
    let t5 = both _ _ t4.1 in
    let t6 = both _ _ t5.1 in
    let p = both _ _ t3.0 in
    let k = good-key-length (key_length b) t5.0 in
    let n = both _ _ t6.1 in
    record {
      long = leb-true _ _ t1.0;
      character = eqb-true _ _ t2.0;
      within = leb-true _ _ p.0;
      most = leb-true _ _ p.1;
      root = t4.0;
      key-low = k.0;
      key-high = k.1;
      entry = eqb-true _ _ t6.0;
      some = leb-true _ _ n.0;
      fit = leb-true _ _ n.1;
    }

-- a key lies within its entry
pub key-inside : (k : ℕ) → k + 8 ≤ entry_size_of k
unfolding entry_size_of
key-inside k = omega arith

-- a product of two numbers of 32 bits has 64
pub product_fits : {a b : ℕ} → a < 2 ^ 32 → b < 2 ^ 32 → a * b < 2 ^ 64
product_fits {a} {b} ha hb =
    subst⁻¹ (λ (n : ℕ). a * b < n) (pow-add 2 32 32)
    (lt_of_le_of_lt (mul-le-mul_left a (le_of_lt hb)) (mul-lt-mul_of_pos_right ha (pow_pos 32)))

-- the header's own test of its length
pub long_enough : (b : List ℕ) → page_size ≤ length b → leb page_size (length b) ≡ true
long_enough b l = le-leb _ _ l

pub too_short : (b : List ℕ) → length b < page_size → header_good b ≡ false
unfolding header_good
too_short b l = rw (lt-leb _ _ l)
