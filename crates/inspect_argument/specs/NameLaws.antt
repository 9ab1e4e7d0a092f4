-- Laws: `named_below` over one field more, and at a field that has the name; and the three cases of `NameMatched`. Cited by the proofs of `named_field` and
-- `match_by_name`. Assumes nothing.
use Rattle.std.specs.Prelude.{◌≡◌, true, false, List, Err}
use Prim.Native.Nat.{ℕ, zero, suc, ◌+◌, ◌<◌}
use Rattle.std.proofs.Math.Path.{refl, subst}
use Rattle.std.proofs.Common.{◌∙◌, eq-or-lt_of_le, le_of_suc-le-suc, not-suc-le-zero, add-one, arith}
use Rattle.std.proofs.Math.Logic.{⊎_elim}
use borrow.Author.Tests.{le-leb}
use Rattle.dbf_table.specs.Table.{table_refusal, check_table}
use Rattle.dbf_table.specs.TableLaws.{refused_check}
use Rattle.idx_match.specs.Match.{Matched}
use Rattle.inspect_argument.specs.Names.{has_name, named_below, named_field, NameMatched}

module _ (b name : List ℕ) where
  pub named_none : named_below b name 0 ≡ 0
  unfolding named_below
  named_none = refl

  pub named_more : (j : ℕ) → named_below b name j ≡ 0 → has_name b name j ≡ false → named_below b name (j + 1) ≡ 0
  unfolding named_below
  named_more j none other = rw (add-one j, none, other)

  -- the first field that has the name is the answer, whatever follows
  pub named_stop : (j n : ℕ) → j < n → named_below b name j ≡ 0 → has_name b name j ≡ true → named_below b name n ≡ suc j
  unfolding named_below
  named_stop j zero below none has = absurd (not-suc-le-zero below)
  named_stop j (suc n) below none has =
      ⊎_elim
      (λ (q : j ≡ n). subst (λ (k : ℕ). named_below b name (suc k) ≡ suc j) q (rw (none, has)))
      (λ lt. rw (named_stop j n lt none has, le-leb 1 (suc j) (omega arith)))
      (eq-or-lt_of_le (le_of_suc-le-suc below))

-- the answer for a refused table, for a name that no field has, and for the field that has it
module _ (t b name : List ℕ) where
  pub by_refusal : (n : ℕ) → check_table t ≡ Err n → NameMatched t b name n
  by_refusal n said =
      let no = refused_check t n said in
      record {
        refused = λ _. no.0;
        none = λ good. absurd (no.1 (no.0 ∙ good));
        matched = λ good. absurd (no.1 (no.0 ∙ good));
      }

  pub by_none : table_refusal t ≡ 0 → named_field t name ≡ 0 → NameMatched t b name 12
  by_none good none = record { refused = λ bad. absurd (bad good); none = λ _ _. refl; matched = λ _ some. absurd (some none) }

  pub by_match : (r : ℕ) → table_refusal t ≡ 0 → (named_field t name ≡ 0 → ⊥) → Matched t b (named_field t name) r → NameMatched t b name r
  by_match r good some said = record { refused = λ bad. absurd (bad good); none = λ _ none. absurd (some none); matched = λ _ _. said }
