-- Laws: a fresh index is sound; every call keeps a sound index sound and linked, and answers and changes it as the book does. Cited by the theorem about
-- lists of calls and by the laws of bytes. Assumes nothing.
use Rattle.std.specs.Prelude.{◌≡◌, refl, Bool, true, false, not, ◌||◌, ℕ, suc, ◌+◌, ◌*◌, ◌≤◌, ◌<◌, ltb, eqb, length}
use Rattle.std.proofs.Common.{sym, ap, ◌∙◌, arith, ltb-false, eq-eqb, ne_eqb}
use Rattle.std.proofs.Math.Option.{Option, none, some}
use Rattle.std.proofs.lemmas.Bool.{eqb-false}
use Rattle.basis.specs.Tests.{either, contra, impossible}
use Rattle.tree.specs.Constants.{page_size, no_page}
use Rattle.tree.specs.Lists.{count_if}
use Rattle.tree.specs.Pairs.{get, has, remove_pair}
use Rattle.tree.proofs.PairLaws.{insert_pair-all}
use Rattle.tree.specs.Clauses.{Links}
use Rattle.tree.specs.Keeping.{Route}
use Rattle.tree.proofs.KeepingLaws.{find-get, present-has}
use Rattle.tree.specs.LookupFirst.{lookup_by, visited_by}
use Rattle.tree.proofs.LookupLaws.{lookup_by-find, visited_by-found}
use Rattle.tree.specs.Insertion.{Grown}
use Rattle.tree.specs.Room.{needs, levels_after}
use Rattle.tree.proofs.Ordered.{Rooted}
use Rattle.tree.proofs.Insertion.Pairs.{insert-pairs}
use Rattle.tree.proofs.Insertion.Ordered.{insert-ordered}
use Rattle.tree.proofs.ClauseLaws.{sized-rooted}
use Rattle.tree.proofs.Insertion.Sized.{insert-sized}
use Rattle.tree.specs.Supply.{taken_page, size_after}
use Rattle.tree.proofs.SupplyLaws.{taken-injective, taken-some}
use Rattle.tree.proofs.Insertion.Pages.{insert-pages}
use Rattle.tree.proofs.Insertion.Needs.{insert-needs}
use Rattle.tree.proofs.Insertion.Links.{insert-all-linked}
use Rattle.tree.proofs.Removal.Pairs.{remove-all, remove-pairs}
use Rattle.tree.proofs.Removal.Ordered.{remove-ordered}
use Rattle.tree.proofs.Removal.Sized.{remove-sized, remove-low}
use Rattle.tree.proofs.Removal.Links.{remove-all-linked}
use Rattle.tree.specs.Book.{Call, insertion, removal_of, lookup_of, Answer, KeyTests, accepted, found, refused_if, verdict, striking, finding, is_no_room}
use Rattle.tree.specs.Book.{is_accepted, book_answer, book_after}
use Rattle.tree.specs.Index.{Index, held, fresh, Setting, out_of_room, no_room_for, answer, inserted_tree, striking_route}
use Rattle.tree.specs.Index.{inserted, inserted_links, removed, removed_links, next}
use Rattle.tree.proofs.SoundIndex.{PagesOnce, SoundIndex, LinkedIndex}
use Rattle.tree.proofs.IndexPages.{pages-distinct, free-distinct, free-beyond, no_page-unused, taken-unused, grown-pages, removed-pages}

-- the verdict on an insertion does not change if it is told whether it was 30
verdict-room : (fits barred : Bool) (r : ℕ) (held full : Bool) →
    verdict fits barred r held (is_no_room (verdict fits barred r held full)) ≡ verdict fits barred r held full
verdict-room fits barred r held full = go (not fits) barred (eqb r 0) held full
  where
    five : Bool → Bool → Bool → Bool → Bool → Answer
    five a b c d e = refused_if a 27 (refused_if b 32 (refused_if c 28 (refused_if d 29 (refused_if e 30 accepted))))

    go : (a b c d e : Bool) → five a b c d (is_no_room (five a b c d e)) ≡ five a b c d e
    go true b c d e = refl
    go false true c d e = refl
    go false false true d e = refl
    go false false false true e = refl
    go false false false false true = refl
    go false false false false false = refl

-- the verdict is yes only if no refusal's test holds
pub record Acceptable (fits : Bool) (r : ℕ) (held full : Bool) : Type 0 where
  pub fitting : fits ≡ true
  pub positive : 0 < r
  pub new : held ≡ false
  pub room : full ≡ false

pub accepted_acceptable : (fits barred : Bool) (r : ℕ) (held full : Bool) → is_accepted (verdict fits barred r held full) ≡ true →
    Acceptable fits r held full
accepted_acceptable false barred r held full e = contra e refl
accepted_acceptable true true r held full e = contra e refl
accepted_acceptable true false r held full e = either (eqb r 0)
    (λ z. contra (rw z at e) refl)
    (λ z. go held full (omega (arith, eqb-false r 0 z)) (rw z at e))
  where
    go : (h f : Bool) → 0 < r → is_accepted (refused_if h 29 (refused_if f 30 accepted)) ≡ true → Acceptable true r h f
    go true f p q = contra q refl
    go false true p q = contra q refl
    go false false p q = record { fitting = refl; positive = p; new = refl; room = refl }

-- a removal is accepted only if its key fits and is there
pub record Strikable (fits held : Bool) : Type 0 where
  pub fitting : fits ≡ true
  pub there : held ≡ true

pub accepted_strikable : (fits held : Bool) → is_accepted (striking fits held) ≡ true → Strikable fits held
accepted_strikable false held e = contra e refl
accepted_strikable true false e = contra e refl
accepted_strikable true true e = record { fitting = refl; there = refl }

-- a lookup answers a record only if it was found
found_some : (fits : Bool) (o : Option ℕ) (r : ℕ) → finding fits o ≡ found r → o ≡ some r
found_some false o r e = let z : ◌≡◌ {A = ℕ} 0 1 = cc in impossible z
found_some true none r e = let z : ◌≡◌ {A = ℕ} 0 1 = cc in impossible z
found_some true (some q) r e = let z : q ≡ r = cc in ap some z

-- neither limit is passed
room-both : (a b : Bool) → (a || b) ≡ false → (a ≡ false) × (b ≡ false)
room-both true b e = contra refl e
room-both false b e = (refl, e)

pub fresh-sound : {K : Type 0} (s : Setting K) → 1 < s.capacity → 2 * page_size ≤ s.max_size → 1 ≤ s.max_levels → SoundIndex s fresh
fresh-sound s two room levels = record {
  ordered = record { ascending = tt; separated = tt };
  sized = (omega arith, omega arith, tt);
  pages_once = record {
    positive = omega arith;
    aligned = refl;
    header = refl;
    once = λ z a b m. rw (eq-eqb z page_size (omega arith)) (omega arith);
    unaligned = λ z o. rw (ne_eqb z page_size (λ e. o (omega arith))) (omega arith);
    beyond = λ z a. rw (ne_eqb z page_size (omega arith)) (omega arith);
  };
  records = tt;
  within_size = omega arith;
  within_levels = omega arith;
}

module _ {K : Type 0} (s : Setting K) (two : 1 < s.capacity) where
  -- Theorem: an insertion of a pair that is not there, with room for it, keeps an index sound
  pub inserted-sound : (i : Index K) (e : K × ℕ) → 0 < e.1 → has s.keeping.pair_le e (held i) ≡ false → out_of_room s e i ≡ false → SoundIndex s i →
      SoundIndex s (inserted s e i)
  inserted-sound i e pos f room d =
      let h : ℕ = i.height in
      let name : ℕ → ℕ = taken_page i.free i.size in
      let g : Grown K = inserted_tree s e i in
      let rooted : Rooted h i.tree = sized-rooted s.capacity h i.tree d.sized in
      let needed : (g.2 ≡ needs (s.keeping.route e) s.capacity h i.tree)
      × (suc g.0 ≡ levels_after (s.keeping.route e) s.capacity h i.tree) =
      insert-needs s.keeping s.capacity name e h i.tree (omega arith) d.sized in
      let limit : ℕ = size_after i.free i.size (needs (s.keeping.route e) s.capacity h i.tree) in
      let levels : ℕ = levels_after (s.keeping.route e) s.capacity h i.tree in
      let rooms : (ltb s.max_size limit ≡ false) × (ltb s.max_levels levels ≡ false) =
      room-both (ltb s.max_size limit) (ltb s.max_levels levels) room in
      record {
        ordered = insert-ordered s.keeping s.capacity (omega arith) name e h i.tree rooted d.ordered f;
        sized = insert-sized s.keeping s.capacity two name e h i.tree d.sized;
        pages_once = grown-pages i d.pages_once g (λ z. insert-pages s.keeping s.capacity name e z h i.tree);
        records = rw (insert-pairs s.keeping s.capacity name e h i.tree rooted d.ordered)
            (insert_pair-all s.keeping.pair_le (λ x. 0 < x.1) e (held i) pos d.records);
        within_size = omega (arith, needed.0, ltb-false s.max_size limit rooms.0);
        within_levels = omega (arith, needed.1, ltb-false s.max_levels levels rooms.1);
      }

  -- Theorem: such an insertion keeps the levels linked
  pub inserted-linked : (i : Index K) (e : K × ℕ) (l : Links) → SoundIndex s i → SoundIndex s (inserted s e i) → LinkedIndex l i →
      LinkedIndex (inserted_links s e i l) (inserted s e i)
  inserted-linked i e l d g c =
      let p : PagesOnce i = d.pages_once in
      insert-all-linked s.keeping s.capacity (omega arith) (taken_page i.free i.size)
      (taken-injective i.size i.free (free-distinct i p) (free-beyond i p))
      no_page (taken-some i.size i.free (free-distinct i p) (free-beyond i p) p.aligned (omega (arith, no_page-unused i p)))
      e i.height i.tree d.sized (pages-distinct i p) (taken-unused i p) (omega (arith, no_page-unused i p)) l
      (pages-distinct (inserted s e i) g.pages_once) c

  -- Theorem: a removal, of whatever pair, keeps an index sound
  pub removed-sound : (i : Index K) (e : K × ℕ) → SoundIndex s i → SoundIndex s (removed s e i)
  removed-sound i e d =
      let route : Route K = striking_route s e in
      record {
        ordered = remove-ordered s.keeping route i.height i.tree d.ordered;
        sized = remove-sized route s.capacity i.height i.tree d.sized;
        pages_once = removed-pages i d.pages_once s e;
        records = remove-all (λ x. 0 < x.1) route i.height i.tree d.records;
        within_size = d.within_size;
        within_levels = omega (arith, d.within_levels, remove-low route i.height i.tree);
      }

  -- Theorem: a removal keeps the levels linked
  pub removed-linked : (i : Index K) (e : K × ℕ) (l : Links) → SoundIndex s i → LinkedIndex l i → LinkedIndex (removed_links s e i l) (removed s e i)
  removed-linked i e l d c =
      let p : PagesOnce i = d.pages_once in
      remove-all-linked (striking_route s e) no_page e.0 i.height i.tree (pages-distinct i p) (omega (arith, no_page-unused i p)) l c

  -- Theorem: after a removal of a pair that is there, or for features 1 of its key, the leaf pairs are the old ones without it
  pub removed-pairs : (i : Index K) (e : K × ℕ) → SoundIndex s i → has s.keeping.pair_le e (held i) ≡ true →
      held (removed s e i) ≡ remove_pair s.keeping.pair_le e (held i)
  removed-pairs i e d there =
      remove-pairs s.keeping e i.height i.tree d.ordered (present-has s.keeping e (held i) d.ordered.ascending ∙ there)

  -- Theorem: a lookup in a sound index gives what its leaf pairs have under the key, the first of them
  pub lookup-held : (i : Index K) (k : K) → SoundIndex s i → lookup_by s.keeping k i.height i.tree ≡ get s.keeping.order k (held i)
  lookup-held i k d =
      lookup_by-find s.keeping k i.height i.tree d.ordered ∙ find-get s.keeping k (held i) d.ordered.ascending

  -- Theorem: a call is answered as the book answers it, if the book is told whether the answer is 30, or what the rule for 30 says
  pub answer_book : (tests : KeyTests K) (c : Call K) (i : Index K) → SoundIndex s i →
      book_answer s.keeping tests c (is_no_room (answer s tests c i)) (held i) ≡ answer s tests c i
  answer_book tests (lookup_of k) i d = ap (finding (tests.fits k)) (sym (lookup-held i k d))
  answer_book tests (removal_of k r) i d = refl
  answer_book tests (insertion k r) i d =
      verdict-room (tests.fits k) (tests.barred k) r (has s.keeping.pair_le (k, r) (held i)) (out_of_room s (k, r) i)

  pub answer-room : (tests : KeyTests K) (c : Call K) (i : Index K) → SoundIndex s i →
      book_answer s.keeping tests c (no_room_for s c i) (held i) ≡ answer s tests c i
  answer-room tests (lookup_of k) i d = answer_book tests (lookup_of k) i d
  answer-room tests (removal_of k r) i d = refl
  answer-room tests (insertion k r) i d = refl

  -- Theorem: the leaf pairs after a call are the book after it
  pub next_book : (tests : KeyTests K) (c : Call K) (i : Index K) → SoundIndex s i →
      book_after s.keeping tests c (is_no_room (answer s tests c i)) (held i) ≡ held (next s tests c i)
  next_book tests (lookup_of k) i d = refl
  next_book tests (removal_of k r) i d = either (is_accepted (answer s tests (removal_of k r) i))
      (λ e. let a : Strikable (tests.fits k) (has s.keeping.pair_le (k, r) (held i)) =
      accepted_strikable (tests.fits k) (has s.keeping.pair_le (k, r) (held i)) e in
      rw e (sym (removed-pairs i (k, r) d a.there)))
      (λ e. rw e)
  next_book tests (insertion k r) i d =
      rw (answer_book tests (insertion k r) i d)
      (either (is_accepted (answer s tests (insertion k r) i))
      (λ e. let rooted : Rooted i.height i.tree = sized-rooted s.capacity i.height i.tree d.sized in
      rw e (sym (insert-pairs s.keeping s.capacity (taken_page i.free i.size) (k, r) i.height i.tree rooted d.ordered)))
      (λ e. rw e))

  -- Theorem: a lookup that finds its key has visited as many pages as there are levels or, only if lookup goes on, one more
  pub lookup-visits : (tests : KeyTests K) (k : K) (i : Index K) (r : ℕ) → answer s tests (lookup_of k) i ≡ found r →
      (suc i.height ≤ length (visited_by s.keeping k i.height i.tree))
      × (length (visited_by s.keeping k i.height i.tree) ≤ suc i.height + count_if s.keeping.goes_on)
  lookup-visits tests k i r e =
      visited_by-found s.keeping k i.height i.tree r (found_some (tests.fits k) (lookup_by s.keeping k i.height i.tree) r e)
