-- Steps: the audit's walk through an index of either format, as it is computed: a page is entered and counted, then each child is walked in turn, and after it
-- the key above it is passed. So leaf keys and keys above are met in their order, and each is compared with the one met before it alone: between two
-- neighbouring leaves there is exactly one key above that bounds both. Only the audit's inner functions cite it.
use Rattle.std.specs.Prelude.{ℕ, zero, suc, ◌+◌, Bool, true, false, cond, not, ◌&&◌, List, [], ◌∷◌, eqb, ltb}
use Rattle.std.proofs.Math.Option.{Option, none, some}
use Rattle.tree.specs.Order.{Order}
use Rattle.tree.specs.Store.{Store}

-- what the walk knows: whether all was good, the last key that it met, and how many pages it entered
pub record Status (K : Type 0) : Type 0 where
  pub good : Bool
  pub last : Option K
  pub entered : ℕ

abbrev pub refused : {K : Type 0} → Status K → Status K
refused s = record { good = false; last = s.last; entered = s.entered }

-- on to `next` where all was good and a test holds
abbrev pub tested : {K : Type 0} → Bool → Status K → Status K → Status K
tested t next s = cond (s.good && t) next (refused s)

-- on with g where all was good
unfoldable pub if_good : {K : Type 0} → (Status K → Status K) → Status K → Status K
if_good g s = elim s.good [ true ↦ g s | false ↦ s ]

-- each child and then the key above it; the last key of a page bounds no child after it, so the last key met stays that of a leaf
unfoldable pub over : {K : Type 0} → (Status K → K → Status K) → (Status K → K → Status K) → (K × ℕ → Status K → Status K) → List (K × ℕ) → Status K → Status K
over under passed f [] s = s
over under passed f (e ∷ []) s = under (f e s) e.0
over under passed f (e ∷ d ∷ es) s = if_good (λ t. over under passed f (d ∷ es) t) (passed (f e s) e.0)

module _ {K : Type 0} (O : Order K) where
  -- whether a key is above the last one, or at or above it; where there is none it is
  abbrev pub is_after : Option K → K → Bool
  is_after none a = true
  is_after (some l) a = not (O.le a l)

  abbrev pub at_most : Option K → K → Bool
  at_most none a = true
  at_most (some l) a = O.le l a

  -- a leaf's pair: its key above the last one, its record above 0
  abbrev pub item : K × ℕ → Status K → Status K
  item e s = tested (is_after s.last e.0 && not (eqb e.1 0)) (record { good = true; last = some e.0; entered = s.entered }) s

  unfoldable pub items : List (K × ℕ) → Status K → Status K
  items [] s = s
  items (e ∷ es) s = if_good (λ t. items es t) (item e s)

  -- a key above: at or above the last key met, and then below what comes after it, or not
  abbrev pub passed : Status K → K → Status K
  passed s a = tested (at_most s.last a) (record { good = true; last = some a; entered = s.entered }) s

  abbrev pub under : Status K → K → Status K
  under s a = tested (at_most s.last a) s s

  -- the most pages that are entered, the pages' entries, and the checks of a page that is a lone root or not, with so many levels under it
  module _ (most : ℕ) (S : Store K) (fits : Bool → ℕ → ℕ → Bool) where
    abbrev pub enter : Bool → ℕ → ℕ → Status K → Status K
    enter lone h p s =
        tested (fits lone h p && ltb s.entered most) (record { good = true; last = s.last; entered = s.entered + 1 }) s

    -- page p with h levels under it
    unfoldable pub walk : Bool → ℕ → ℕ → Status K → Status K
    walk lone zero p s = if_good (λ t. items (S p) t) (enter lone zero p s)
    walk lone (suc h) p s = if_good (λ t. over under passed (λ e. walk false h e.1) (S p) t) (enter lone (suc h) p s)
