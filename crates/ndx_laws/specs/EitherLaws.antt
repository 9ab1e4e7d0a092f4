-- Laws: "On a sound index of either format, lookup is to be shown against the same sorted list, its leaves' pairs: it gives the key's first record there,
-- absent exactly when there is none". One claim, of both formats. Assumes nothing.
use Rattle.std.specs.Prelude.{ℕ, ◌+◌, ◌≡◌, List, length}
use Rattle.std.proofs.Common.{ap, ◌∙◌, arith}
use Rattle.tree.specs.Pairs.{get}
use Rattle.tree.proofs.KeepingLaws.{find-get}
use Rattle.tree.proofs.KeepingOf.{distinct_keys}
use Rattle.tree.specs.LookupFirst.{visited_by}
use Rattle.tree.proofs.LookupLaws.{lookup_by-find}
use Rattle.idx_page.specs.KeyOrder.{bytes_order}
use Rattle.idx_page.specs.Header as idx-header
use Rattle.idx_lookup.specs.Lookup as idx-lookup
use Rattle.idx_lookup.specs.Answer.{Answer}
use Rattle.idx_lookup_laws.specs.FoundLaws.{answer_of}
use Rattle.idx_lookup_laws.specs.HeldLaws.{lookup-by}
use Rattle.idx_sound.specs.Sound as idx
use Rattle.idx_sound.proofs.IndexLaws.{sound-index}
use Rattle.ndx_page.specs.Header as ndx-header
use Rattle.ndx_page.specs.Lookup as ndx-lookup
use Rattle.ndx_sound.specs.Reading as ndx-reading
use Rattle.ndx_sound.specs.Sound as ndx
use Rattle.ndx_laws.specs.FoundLaws as ndx-found

-- an answer gives what stands first under the key in a list of pairs: its record, or absent exactly if there is none
pub record ByList (key : List ℕ) (pairs : List (List ℕ × ℕ)) (a : Answer) : Type 0 where
  -- the pages visited
  pub pages : ℕ
  -- `get` takes the list as it stands, in any order: the first pair whose key is equal
  pub first : a ≡ answer_of (get bytes_order key pairs) pages

-- Theorem: lookup in a sound IDX index of either features
pub idx_by_list : (b key : List ℕ) (s : idx.Sound b) → length key ≡ idx-header.key_length b → ByList key (idx.leaf_pairs b s) (idx-lookup.lookup_rule b key)
idx_by_list b key s e =
    let T = idx.index_tree b s.height in
    let n = length (visited_by (idx.kept_by b) key s.height T) in
    record {
      pages = n;
      first = lookup-by b key s e
          ∙ ap (λ o. answer_of o n)
          (lookup_by-find (idx.kept_by b) key s.height T (sound-index b s (idx-header.file_size b) (omega arith)).ordered
          ∙ find-get (idx.kept_by b) key (idx.leaf_pairs b s) s.ascending);
    }

-- Theorem: lookup in a sound NDX index, which visits as many pages as there are levels
pub ndx_by_list : (b key : List ℕ) (s : ndx.Sound b) → length key ≡ ndx-header.key_length b
    → ByList key (ndx-reading.leaf_pairs b s.height) (ndx-lookup.lookup_rule b key)
ndx_by_list b key s e = record {
  pages = s.height + 1;
  first = ndx-found.lookup-list b key s e
      ∙ ap (λ o. answer_of o (s.height + 1)) (find-get (distinct_keys bytes_order) key (ndx-reading.leaf_pairs b s.height) s.ascending);
}
