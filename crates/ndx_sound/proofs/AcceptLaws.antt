-- Laws: what the walk asks of a tree is that it is ordered and that its pages fit, level by level. Takes the order, the store and the checks of a page as
-- parameters. Assumes nothing.
use Rattle.std.specs.Prelude.{ℕ, zero, suc, ◌-◌, ◌<◌, ◌≡◌, Bool, true, false, List, [], ◌∷◌, map}
use Rattle.std.proofs.Common.{arith}
use Rattle.basis.specs.Lists.{All, all_map}
use Rattle.tree.proofs.ListLaws.{all_map2}
use Rattle.tree.specs.Order.{Order}
use Rattle.tree.specs.Tree.{pairs_under}
use Rattle.tree.proofs.KeepingOf.{distinct_keys}
use Rattle.tree.proofs.Ordered.{Separated, OrderedUnder, SeparatedTree, separated-all}
use Rattle.tree.specs.Store.{Store, read_entry, read_tree}
use Rattle.tree.proofs.Levels.{join_map, below, generation, all-to_concat, all_of_concat}
use Rattle.ndx_sound.proofs.WalkLaws.{Good, Accept}

module _ {K : Type 0} (O : Order K) (most : ℕ) (S : Store K) (fits : Bool → ℕ → ℕ → Bool) where
  -- every page under an entry fits, and every leaf pair has a record number
  abbrev pub Fitting : (h : ℕ) → K × ℕ → Type 0
  Fitting zero e = 0 < e.1
  Fitting (suc h) e = (fits false h e.1 ≡ true) × All (Fitting h) (S e.1)

  good-fitting : (h : ℕ) (e : K × ℕ) → Good O most S fits h e → Fitting h e
  good-fitting zero e g = g
  good-fitting (suc h) e g = (
    g.0,
    all_map (Good O most S fits h) (Fitting h) (good-fitting h) (S e.1) (separated-all (distinct_keys O) (Good O most S fits h) (λ d. pairs_under h
        (read_entry S h d)) (S e.1) g.1),
  )

  separated-unread : (h : ℕ) → ((e : K × ℕ) → Fitting h e → OrderedUnder (distinct_keys O) h (read_entry S h e) → Good O most S fits h e) → (es : List (K × ℕ))
      → All (Fitting h) es
      → Separated (distinct_keys O) (OrderedUnder (distinct_keys O) h) (pairs_under h) (map (read_entry S h) es)
      → Separated (distinct_keys O) (Good O most S fits h) (λ d. pairs_under h (read_entry S h d)) es
  separated-unread h ok [] a c = tt
  separated-unread h ok (e ∷ es) a c = (
    record {
      good = ok e a.0 c.0.good;
      non_empty = c.0.non_empty;
      ceiling = c.0.ceiling;
      apart = rw (join_map S (pairs_under h) (read_entry S h) es) at c.0.apart;
    },
    separated-unread h ok es a.1 c.1,
  )

  fitting-good : (h : ℕ) (e : K × ℕ) → Fitting h e → OrderedUnder (distinct_keys O) h (read_entry S h e) → Good O most S fits h e
  fitting-good zero e f o = f
  fitting-good (suc h) e f o = (f.0, separated-unread h (fitting-good h) (S e.1) f.1 o.1)

  -- Theorem: what the walk asks, both ways
  pub accept_fitting : (lone : Bool) (h p : ℕ) → Accept O most S fits lone h p → All (Fitting h) (S p)
  accept_fitting lone h p a =
      all_map (Good O most S fits h) (Fitting h) (good-fitting h) (S p)
      (separated-all (distinct_keys O) (Good O most S fits h) (λ d. pairs_under h (read_entry S h d)) (S p)
      a.1)

  pub fitting_accept : (lone : Bool) (h p : ℕ) → fits lone h p ≡ true → All (Fitting h) (S p) → SeparatedTree (distinct_keys O) h (read_tree S h p)
      → Accept O most S fits lone h p
  fitting_accept lone h p e f o = (e, separated-unread h (fitting-good h) (S p) f o)

  -- level by level
  pub fitting-levels : (h : ℕ) (es : List (K × ℕ)) → All (Fitting h) es → (i : ℕ) → i < h → All (λ e. fits false (h - suc i) e.1 ≡ true) (generation S i es)
  fitting-levels zero es a i l = absurd (omega arith)
  fitting-levels (suc h) es a zero l =
      let d : suc h - 1 ≡ h = omega arith in
      rw d (all_map (Fitting (suc h)) (λ e. fits false h e.1 ≡ true) (λ e f. f.0) es a)
  fitting-levels (suc h) es a (suc i) l =
      let d : suc h - suc (suc i) ≡ h - suc i = omega arith in
      let under = all_map (Fitting (suc h)) (λ e. All (Fitting h) (S e.1)) (λ e f. f.1) es a in
      rw d (fitting-levels h (below S es) (all-to_concat (Fitting h) (λ e. S e.1) es under) i (omega arith))

  pub fitting-pairs : (h : ℕ) (es : List (K × ℕ)) → All (Fitting h) es → All (λ e. 0 < e.1) (generation S h es)
  fitting-pairs zero es a = a
  fitting-pairs (suc h) es a =
      fitting-pairs h (below S es) (all-to_concat (Fitting h) (λ e. S e.1) es (all_map (Fitting (suc h)) (λ e. All (Fitting h) (S e.1))
      (λ e f. f.1) es a))

  pub levels-fitting : (h : ℕ) (es : List (K × ℕ)) → ((i : ℕ) → i < h → All (λ e. fits false (h - suc i) e.1 ≡ true) (generation S i es))
      → All (λ e. 0 < e.1) (generation S h es) → All (Fitting h) es
  levels-fitting zero es a r = r
  levels-fitting (suc h) es a r =
      let d : suc h - 1 ≡ h = omega arith in
      let lower = levels-fitting h (below S es) (λ i l. let q : suc h - suc (suc i) ≡ h - suc i = omega arith in rw q at (a (suc i) (omega arith))) r in
      all_map2 (λ e. fits false h e.1 ≡ true) (λ e. All (Fitting h) (S e.1)) (Fitting (suc h)) (λ e x y. (x, y)) es
      (rw d at (a 0 (omega arith))) (all_of_concat (Fitting h) (λ e. S e.1) es lower)
