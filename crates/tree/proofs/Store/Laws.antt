-- Laws: the tree that a store is read as depends on the pages reached alone; the pages of a store after a write. Cited by the other laws of stores and by the
-- laws of bytes. Assumes nothing.
use Rattle.std.specs.Prelude.{◌≡◌, refl, List, [], ◌∷◌, ◌++◌, map, ℕ, zero, suc, ◌<◌}
use Rattle.std.proofs.Common.{ap, ap₂, ◌∙◌, arith, eq-eqb, ne_eqb}
use Rattle.tree.specs.Lists.{concat_map, occ}
use Rattle.tree.proofs.ListLaws.{occ_append, occ-here}
use Rattle.tree.specs.Pairs.{last_key}
use Rattle.tree.specs.Tree.{Child, Entry, pages_under}
use Rattle.tree.specs.Store.{Store, read_child, read_entry}
use Rattle.tree.specs.Store.Steps.{write}

-- two stores are the same at the numbers of a list
abbrev pub AgreeOn : {K : Type 0} → Store K → Store K → List ℕ → Type 0
AgreeOn S S' l = (z : ℕ) → 0 < occ z l → S' z ≡ S z

module _ {K : Type 0} (S S' : Store K) where
  agree_left : (xs ys : List ℕ) → AgreeOn S S' (xs ++ ys) → AgreeOn S S' xs
  agree_left xs ys s z l = s z (omega (arith, occ_append z xs ys))

  agree_right : (xs ys : List ℕ) → AgreeOn S S' (xs ++ ys) → AgreeOn S S' ys
  agree_right xs ys s z l = s z (omega (arith, occ_append z xs ys))

  frame-level : (h : ℕ) → ((e : K × ℕ) → AgreeOn S S' (pages_under h (read_entry S h e)) → read_child S' h e.1 ≡ read_child S h e.1) →
      (es : List (K × ℕ)) → AgreeOn S S' (concat_map (pages_under h) (map (read_entry S h) es)) →
      map (read_entry S' h) es ≡ map (read_entry S h) es
  frame-level h ok [] s = refl
  frame-level h ok (e ∷ es) s =
      let here : List ℕ = pages_under h (read_entry S h e) in
      let rest : List ℕ = concat_map (pages_under h) (map (read_entry S h) es) in
      ap₂ (λ (x : Child K h) (l : List (Entry K h)). (e.0, x) ∷ l) (ok e (agree_left here rest s))
      (frame-level h ok es (agree_right here rest s))

  -- Theorem: stores that agree on the pages under an entry are read as the same child there
  pub frame : (h : ℕ) (e : K × ℕ) → AgreeOn S S' (pages_under h (read_entry S h e)) → read_child S' h e.1 ≡ read_child S h e.1
  frame zero e s = refl
  frame (suc h) e s =
      let under : List ℕ = concat_map (pages_under h) (map (read_entry S h) (S e.1)) in
      ap (λ (l : List (Entry K h)). (e.1, l))
      (ap (map (read_entry S' h)) (s e.1 (occ-here e.1 under))
      ∙ frame-level h (frame h) (S e.1) (λ z l. s z (omega arith)))

  pub frame-entries : (h : ℕ) (es : List (K × ℕ)) → AgreeOn S S' (concat_map (pages_under h) (map (read_entry S h) es)) →
      map (read_entry S' h) es ≡ map (read_entry S h) es
  frame-entries h es s = frame-level h (frame h) es s

-- a page that was written, and the others
pub write-here : {K : Type 0} (S : Store K) (p : ℕ) (es : List (K × ℕ)) → write S p es p ≡ es
write-here S p es = rw (eq-eqb p p refl)

pub write-other : {K : Type 0} (S : Store K) (p : ℕ) (es : List (K × ℕ)) (z : ℕ) → (z ≡ p → ⊥) → write S p es z ≡ S z
write-other S p es z n = rw (ne_eqb z p n)

-- entries read keep their keys
pub map_read-zero : {K : Type 0} (S : Store K) (xs : List (K × ℕ)) → map (read_entry S zero) xs ≡ xs
map_read-zero S [] = refl
map_read-zero S (x ∷ xs) = ap (λ l. x ∷ l) (map_read-zero S xs)

pub last_key-read : {K : Type 0} (S : Store K) (h : ℕ) (a : K) (xs : List (K × ℕ)) → last_key a (map (read_entry S h) xs) ≡ last_key a xs
last_key-read S h a [] = refl
last_key-read S h a (x ∷ xs) = last_key-read S h x.0 xs
