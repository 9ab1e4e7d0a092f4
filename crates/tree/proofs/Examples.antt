-- Laws: a small list of calls, computed for features 0 and 1, with numbers for keys and two entries to a page: what document 01 and K12 say of it. Assumes
-- nothing.
use Rattle.std.specs.Prelude.{◌≡◌, refl, true, false, List, [], ◌∷◌, ℕ, leb}
use Rattle.std.proofs.Common.{arith, leb-true, leb-false, le-leb}
use Rattle.tree.specs.Order.{Order}
use Rattle.tree.specs.Pairs.{records_of}
use Rattle.tree.proofs.KeepingOf.{keeping_of, repeated_keys}
use Rattle.tree.specs.LookupFirst.{visited_by}
use Rattle.tree.specs.Book.{Call, insertion, removal_of, lookup_of, KeyTests, refused, accepted, found, absent, results_of, final_of}
use Rattle.tree.specs.Index.{Index, held, fresh, Setting, answer, next}

leb_trans : (a b c : ℕ) → leb a b ≡ true → leb b c ≡ true → leb a c ≡ true
leb_trans a b c p q = le-leb a c (omega (arith, leb-true a b p, leb-true b c q))

leb_total : (a b : ℕ) → leb a b ≡ false → leb b a ≡ true
leb_total a b p = le-leb b a (omega (arith, leb-false a b p))

leb_antisym : (a b : ℕ) → leb a b ≡ true → leb b a ≡ true → a ≡ b
leb_antisym a b p q = omega (arith, leb-true a b p, leb-true b a q)

abbrev numbers : Order ℕ
numbers = record { le = leb; trans = leb_trans; total = leb_total; antisym = leb_antisym }

-- an index of either features whose pages have two entries, and which takes every key
abbrev small : ℕ → Setting ℕ
small features = record { keeping = keeping_of numbers features; capacity = 2; max_size = 10000; max_levels = 4 }

abbrev every : KeyTests ℕ
every = record { fits = λ k. true; barred = λ k. false }

-- key 1 four times, a removal that leaves a key above with no such key under it, and the lookups between
abbrev calls : List (Call ℕ)
calls = insertion 1 5 ∷ insertion 1 7 ∷ insertion 0 9 ∷ lookup_of 1 ∷ insertion 1 6 ∷ insertion 1 6 ∷ removal_of 1 5 ∷ lookup_of 1 ∷ removal_of 1 5
    ∷ lookup_of 2 ∷ []

-- features 0
repeated_answers : results_of (answer (small 0) every) (next (small 0) every) calls fresh
    ≡ accepted ∷ accepted ∷ accepted ∷ found 5 ∷ accepted ∷ refused 29 ∷ accepted ∷ found 6 ∷ refused 33 ∷ absent ∷ []
repeated_answers = refl

repeated_pairs : held (final_of (next (small 0) every) calls fresh) ≡ (0, 9) ∷ (1, 6) ∷ (1, 7) ∷ []
repeated_pairs = refl

-- features 1: the second pair of key 1 is refused, and a removal does not look at the record named
distinct-answers : results_of (answer (small 1) every) (next (small 1) every) calls fresh
    ≡ accepted ∷ refused 29 ∷ accepted ∷ found 5 ∷ refused 29 ∷ refused 29 ∷ accepted ∷ absent ∷ refused 33 ∷ absent ∷ []
distinct-answers = refl

-- for features 0 a lookup of key 1 then goes to the right neighbour: three levels, four pages
repeated_visited : let i : Index ℕ = final_of (next (small 0) every) calls fresh in
    visited_by (repeated_keys numbers) 1 i.height i.tree ≡ 3072 ∷ 1536 ∷ 512 ∷ 2048 ∷ []
repeated_visited = refl

-- and all records of key 1 are listed in order
repeated_records : records_of numbers 1 (held (final_of (next (small 0) every) calls fresh)) ≡ 6 ∷ 7 ∷ []
repeated_records = refl
