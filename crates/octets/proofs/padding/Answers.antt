-- The first character that is no blank ends the padding.
use Rattle.std.proofs.Common.{rules, tests, refl, arith, sym, ℕ, ◌+◌, ◌≤◌, suc, ◌≡◌, Bool, not, eqb, ltb, eqb-true, eq-eqb, ne_eqb, ltb-false, List, [], ◌∷◌, length, drop}
use Rattle.std.specs.Prelude.{position}
use Rattle.std.specs.List.{position_or_len}
use Rattle.std.specs.Option.{unwrap_or}
use Rattle.std.proofs.lemmas.Bool.{eqb-false}
use Rattle.std.proofs.lemmas.Iterator.{YieldsList-from_slice}
use Rattle.std.proofs.lemmas.Iterator.Search.{position_from_yields_List}
use Rattle.basis.specs.Tests.{either}
use Rattle.octets.specs.Text.{blank, unpadded}
use Rattle.octets.proofs.padding.Goals as goal

abbrev other : ℕ → Bool
other c = not (eqb c blank)

short : (s : List ℕ) → position_or_len other s ≤ length s
short [] = omega arith
short (c ∷ s) = either (eqb c blank) (λ e. rw e (let l = short s in omega arith)) (λ e. rw e (omega arith))

rest : (s : List ℕ) → drop (position_or_len other s) s ≡ unpadded s
unfolding unpadded
rest [] = refl
rest (c ∷ s) = either (eqb c blank)
    (λ e. let more : 1 + position_or_len other s ≡ suc (position_or_len other s) = omega arith in
    rw (e, eq-eqb blank c (sym (eqb-true c blank e)), more) (rest s))
    (λ e. rw (e, ne_eqb blank c (λ f. eqb-false c blank e (sym f))))

-- where no character is another, that is the length
first : (s : List ℕ) → unwrap_or (position other s) (length s) ≡ position_or_len other s
first s = either (ltb (position_or_len other s) (length s))
    (λ e. rw e)
    (λ e. rw e (let l = short s in omega (arith, ltb-false _ _ e)))

pub returns : goal.returns
returns c =
    let text = c.args.text.now in
    let found = position_from_yields_List other _ _ c.position.result c.position.ensures.ran (YieldsList-from_slice text cc) (λ x b q k. search (rules, tests)) in
    rw (c.unwrap_or.ensures, found, first) (short text, rest text)
