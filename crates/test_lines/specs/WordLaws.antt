-- Laws: the word that comes stands at the front of the line. Assumes nothing.
use Rattle.std.specs.Prelude.{ℕ, ◌≡◌, ◌<◌, false, true, drop, List, ◌∷◌, Option, None, Some, MatchOption, get_or, take}
use Rattle.std.proofs.Math.Path.{sym, ap}
use Rattle.std.proofs.Common.{◌∙◌, arith}
use Rattle.std.specs.Borrow.{Bor}
use Rattle.std.specs.declared.str.Split.{Split}
use Rattle.std.specs.Str.Iter.{split_text, split_pattern, split_has_more}
use Rattle.std.specs.Char.{len_utf8}
use Rattle.std.specs.Str.Pattern.{FindsChar}
use Rattle.test_lines.specs.Words.{TakesWord}

-- a text whose first n bytes begin with c begins with c
first_of : (c n : ℕ) (w rest : List ℕ) → c ∷ rest ≡ take n w → get_or w 0 0 ≡ c
first_of c n w rest e = grind arith

-- the first word of a line begins with c: the line begins with c
pub line_begins : (line : List ℕ) (s t : Split ℕ) (x : Bor (List ℕ)) (c : ℕ) (rest : List ℕ) → split_text s ≡ line → split_pattern s ≡ 32
    → TakesWord s (Some x) t → x.now ≡ c ∷ rest → get_or line 0 0 ≡ c
line_begins line s t x c rest text blank k e = sym (ap (λ w. get_or w 0 0) text) ∙ cut k.1.1.1.0 k.1.1.1.1 k.1.1.1.2 where
  cut : (o : Option (ℕ × ℕ)) → FindsChar (split_pattern s) (split_text s) o → MatchOption o ((x.now ≡ split_text s) × (split_has_more t ≡ false))
      (λ q. 0 < q.1 → (x.now ≡ take q.0 (split_text s)) × (split_has_more t ≡ true) × (split_text t ≡ drop q.1 (split_text s)))
      → get_or (split_text s) 0 0 ≡ c
  cut None f m = ap (λ w. get_or w 0 0) (sym m.0 ∙ e)
  cut (Some q) f m =
      let one : len_utf8 (split_pattern s) ≡ 1 = ap len_utf8 blank in
      first_of c q.0 (split_text s) rest (sym e ∙ (m (omega (arith, f.1.ends, one))).0)
