-- Laws: pages are reused: the file never shrinks, and its size is bounded by the most pairs held at a time; a pair that is struck off is gone, and is there if
-- it is put in again: for features 1 its key is absent, and found. Cited by the theorem about lists of calls. Assumes nothing.
use Rattle.std.specs.Prelude.{◌≡◌, refl, Bool, true, false, List, [], ◌∷◌, ℕ, zero, suc, ◌*◌, ◌/◌, ◌≤◌, ◌<◌, eqb, length}
use Rattle.std.proofs.Common.{sym, ap, ◌∙◌, mul-le-mul, mul-le-mul_right, arith, eqb-true, ne_eqb}
use Rattle.std.proofs.lemmas.Bool.{eqb-false}
use Rattle.basis.specs.Tests.{either}
use Rattle.tree.specs.Constants.{page_size}
use Rattle.tree.specs.Lists.{count_if, occ}
use Rattle.tree.specs.Order.{Order}
use Rattle.tree.specs.Pairs.{find, records_of, has, insert_pair}
use Rattle.tree.specs.Tree.{pages}
use Rattle.tree.proofs.KeepingLaws.{pair_refl, Same, has-inserted, has-removed, KeyAlone, same_key, find-inserted, has-get}
use Rattle.tree.proofs.LookupLaws.{lookup_by-find}
use Rattle.tree.proofs.RecordLaws.{VeryPair, ascending-records, has_very, records-once}
use Rattle.tree.proofs.ClauseLaws.{sized-rooted}
use Rattle.tree.proofs.Insertion.Pairs.{insert-pairs}
use Rattle.tree.proofs.PageCount.{pages-at-least, tree-count}
use Rattle.tree.specs.FreeList.{free_after, lacking}
use Rattle.tree.specs.Supply.{taken_page}
use Rattle.tree.specs.Book.{Call, insertion, removal_of, lookup_of, KeyTests, refused, accepted, found, absent, verdict, is_accepted, found_or_absent}
use Rattle.tree.specs.Index.{Index, held, fresh, Setting, out_of_room, answer, inserted_tree, inserted, removed, next}
use Rattle.tree.proofs.SoundIndex.{SoundIndex}
use Rattle.tree.proofs.IndexLaws.{Strikable, accepted_strikable, inserted-sound, removed-sound, removed-pairs, lookup-held}

-- a file size for m pairs: the header's page, and as many pages as the most levels times m
abbrev pub size_for : {K : Type 0} → Setting K → ℕ → ℕ
size_for s m = page_size * suc (s.max_levels * m)

-- a free list of at most n pages is empty after n pages were taken
free_after-none : (n : ℕ) (free : List ℕ) → length free ≤ n → free_after n free ≡ []
free_after-none zero [] l = refl
free_after-none zero (f ∷ fs) l = absurd (omega arith)
free_after-none (suc n) [] l = refl
free_after-none (suc n) (f ∷ fs) l = free_after-none n fs (omega arith)

-- the verdict on a pair that is there
verdict-there : (fits barred : Bool) (r : ℕ) (there full : Bool) → fits ≡ true → barred ≡ false → 0 < r → there ≡ true →
    verdict fits barred r there full ≡ refused 29
verdict-there fits barred r there full p q pos h = rw (p, q, ne_eqb r 0 (omega arith), h)

module _ {K : Type 0} (s : Setting K) where
  pub fresh-bounded : (m : ℕ) → 0 < m → 0 < s.max_levels → (fresh {K = K}).size ≤ size_for s m
  fresh-bounded m pos levels = let one : 1 * 1 ≤ s.max_levels * m = mul-le-mul levels pos in omega arith

  -- an index with no free page is as small as the pages of its tree allow
  full-bounded : (i : Index K) → SoundIndex s i → i.free ≡ [] → (m : ℕ) → 0 < m → length (held i) ≤ m → i.size ≤ size_for s m
  full-bounded i d e m pos l =
      let n : ℕ = i.size / page_size in
      let all : n ≤ suc (length (pages i.height i.tree)) = pages-at-least n (pages i.height i.tree)
      (λ z a b u. let none : occ z i.free ≡ 0 = ap (occ z) e in
      omega (arith, d.pages_once.once z a (omega (arith, d.pages_once.aligned)) u)) in
      omega (
        arith,
        all,
        d.pages_once.aligned,
        tree-count s.capacity i.height i.tree d.sized m pos l,
        mul-le-mul_right m d.within_levels,
      )

  inserted-bounded : (i : Index K) (e : K × ℕ) → SoundIndex s (inserted s e i) → (m : ℕ) → 0 < m → length (held (inserted s e i)) ≤ m →
      i.size ≤ size_for s m → (inserted s e i).size ≤ size_for s m
  inserted-bounded i e d m pos l b =
      let n : ℕ = (inserted_tree s e i).2 in
      either (eqb (lacking n i.free) 0)
      (λ u. omega (arith, eqb-true (lacking n i.free) 0 u))
      (λ u. full-bounded (inserted s e i) d (free_after-none n i.free (omega (arith, eqb-false (lacking n i.free) 0 u))) m pos l)

  module _ (tests : KeyTests K) where
    -- Theorem: a call leaves the file within the size for m pairs, if it leaves at most m pairs
    pub next-bounded : (c : Call K) (i : Index K) → SoundIndex s (next s tests c i) → (m : ℕ) → 0 < m → length (held (next s tests c i)) ≤ m →
        i.size ≤ size_for s m → (next s tests c i).size ≤ size_for s m
    next-bounded (lookup_of k) i d m pos l b = b
    next-bounded (removal_of k r) i d m pos l b = either (is_accepted (answer s tests (removal_of k r) i)) (λ e. rw e b) (λ e. rw e b)
    next-bounded (insertion k r) i d m pos l b = either (is_accepted (answer s tests (insertion k r) i))
        (λ e. rw e (inserted-bounded i (k, r) (rw e at d) m pos (rw e at l) b))
        (λ e. rw e b)

    -- Theorem: a call does not shrink the file
    pub next_grows : (c : Call K) (i : Index K) → i.size ≤ (next s tests c i).size
    next_grows (lookup_of k) i = omega arith
    next_grows (removal_of k r) i = either (is_accepted (answer s tests (removal_of k r) i)) (λ e. rw e (omega arith)) (λ e. rw e (omega arith))
    next_grows (insertion k r) i = either (is_accepted (answer s tests (insertion k r) i)) (λ e. rw e (omega arith)) (λ e. rw e (omega arith))

    -- a removal that is accepted: of the pair (k, q), or for features 1 of its key
    module _ (two : 1 < s.capacity) (i : Index K) (d : SoundIndex s i) (k : K) (q : ℕ) (yes : answer s tests (removal_of k q) i ≡ accepted) where
      abbrev O : Order K
      O = s.keeping.order

      abbrev le : K × ℕ → K × ℕ → Bool
      le = s.keeping.pair_le

      can : Strikable (tests.fits k) (has le (k, q) (held i))
      can = accepted_strikable (tests.fits k) (has le (k, q) (held i)) (ap is_accepted yes)

      struck : SoundIndex s (removed s (k, q) i)
      struck = removed-sound s two i (k, q) d

      not_there : (r : ℕ) → Same s.keeping (k, q) (k, r) → has le (k, r) (held (removed s (k, q) i)) ≡ false
      not_there r same =
          ap (has le (k, r)) (removed-pairs s two i (k, q) d can.there)
          ∙ has-removed s.keeping (k, q) (k, r) (held i) same d.ordered.ascending

      -- Theorem: the pair is not there then: if it is struck off once more, that is 33
      pub struck-gone : answer s tests (removal_of k q) (next s tests (removal_of k q) i) ≡ refused 33
      struck-gone = rw (yes, can.fitting, not_there q (pair_refl s.keeping (k, q), pair_refl s.keeping (k, q)))

      -- Theorem: for features 1 the key is absent then
      pub struck-absent : KeyAlone s.keeping → answer s tests (lookup_of k) (next s tests (removal_of k q) i) ≡ absent
      struck-absent alone = rw (yes, can.fitting)
          (ap found_or_absent (lookup-held s two (removed s (k, q) i) k struck
          ∙ has-get s.keeping alone k q (held (removed s (k, q) i)) (not_there q (same_key s.keeping alone k q q))))

      -- a pair that is taken for the one struck off, so the very pair or for features 1 one with its key, is put in again, and there is room
      module _ (allowed : tests.barred k ≡ false) (r : ℕ) (same : Same s.keeping (k, q) (k, r)) (pos : 0 < r)
          (room : out_of_room s (k, r) (next s tests (removal_of k q) i) ≡ false) where
        -- Theorem: it is accepted
        pub again-accepted : answer s tests (insertion k r) (next s tests (removal_of k q) i) ≡ accepted
        again-accepted = rw (yes, can.fitting, allowed, ne_eqb r 0 (omega arith), not_there r same, (rw yes at room))

        abbrev again : Index K
        again = inserted s (k, r) (removed s (k, q) i)

        again-next : next s tests (insertion k r) (next s tests (removal_of k q) i) ≡ again
        again-next = rw (again-accepted, yes)

        again-sound : SoundIndex s again
        again-sound = inserted-sound s two (removed s (k, q) i) (k, r) pos (not_there r same) (rw yes at room) struck

        again-pairs : held again ≡ insert_pair le (k, r) (held (removed s (k, q) i))
        again-pairs =
            let j : Index K = removed s (k, q) i in
            insert-pairs s.keeping s.capacity (taken_page j.free j.size) (k, r) j.height j.tree
            (sized-rooted s.capacity j.height j.tree struck.sized) struck.ordered

        again-has : has le (k, r) (held again) ≡ true
        again-has = ap (has le (k, r)) again-pairs ∙ has-inserted s.keeping (k, r) (held (removed s (k, q) i))

        -- Theorem: it is there then: if it is put in once more, that is 29
        pub again-there : answer s tests (insertion k r) (next s tests (insertion k r) (next s tests (removal_of k q) i)) ≡ refused 29
        again-there =
            ap (answer s tests (insertion k r)) again-next
            ∙ verdict-there (tests.fits k) (tests.barred k) r (has le (k, r) (held again)) (out_of_room s (k, r) again) can.fitting allowed pos again-has

        -- Theorem: for features 1 it is found then
        pub again-found : KeyAlone s.keeping → answer s tests (lookup_of k) (next s tests (insertion k r) (next s tests (removal_of k q) i)) ≡ found r
        again-found alone = rw (again-accepted, yes, can.fitting) (ap found_or_absent
            (lookup_by-find s.keeping k again.height again.tree again-sound.ordered
            ∙ (ap (find O k) again-pairs ∙ find-inserted s.keeping alone k r (held (removed s (k, q) i)))))

        -- Theorem: for features 0 its record is listed once then among the records of its key
        pub again-listed : VeryPair s.keeping →
            occ r (records_of O k (held (next s tests (insertion k r) (next s tests (removal_of k q) i)))) ≡ 1
        again-listed very = rw (again-accepted, yes)
            (records-once O k r (held again) (ascending-records s.keeping very (held again) again-sound.ordered.ascending)
            ∙ ap count_if (sym (has_very s.keeping very (k, r) (held again)) ∙ again-has))
