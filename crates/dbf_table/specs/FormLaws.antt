-- Laws: what a good descriptor says of its field, type by type. Assumes nothing.
use Rattle.std.specs.Prelude.{ℕ, zero, suc, ◌≤◌, ◌<◌, ◌≡◌, true, false, ◌&&◌, List, eqb}
use Rattle.std.proofs.lemmas.Bool.{false≢true}
use Rattle.std.proofs.Math.Bool.{or-false, and-false}
use Rattle.std.proofs.Common.{arith}
use Rattle.std.proofs.Math.Dec.{leb}
use borrow.Author.Tests.{leb-true, eqb-true}
use Rattle.basis.specs.Tests.{both}
use Rattle.numeral.specs.Format.{format_good}
use Rattle.dbf_table.specs.Table.{descriptor, field_type, field_length, field_decimals, field_count, max_text, type_c, type_n, type_d, type_l, type_m}
use Rattle.dbf_table.specs.Table.{name_good, form_good, descriptor_good}
use Rattle.dbf_table.specs.TableLaws.{Layout}

-- each field of a good table has a good form
pub field_form : (b : List ℕ) → Layout b → (j : ℕ) → j < field_count b → form_good (field_type b j) (field_length b j) (field_decimals b j) ≡ true
unfolding descriptor_good
field_form b good j l = (both (name_good b (descriptor j)) (form_good (field_type b j) (field_length b j) (field_decimals b j)) (good.fields j l)).1

-- a good form has a byte at least
pub form-some : (type size decimals : ℕ) → form_good type size decimals ≡ true → 1 ≤ size
unfolding form_good format_good
form-some type zero decimals h = let no : false ≡ true = simp (and-false, or-false) at h in absurd (false≢true no)
form-some type (suc n) decimals h = omega arith

-- the lengths that a good form can have, type by type
module _ (size decimals : ℕ) where
  pub form_text : form_good type_c size decimals ≡ true → (1 ≤ size) × (size ≤ max_text)
  unfolding form_good
  form_text h =
      let sized = (both (eqb decimals 0) (leb 1 size && leb size max_text) (simp or-false at h)).1 in
      let parts = both (leb 1 size) (leb size max_text) sized in
      (leb-true _ _ parts.0, leb-true _ _ parts.1)

  pub form-numeric : form_good type_n size decimals ≡ true → format_good size decimals ≡ true
  unfolding form_good
  form-numeric h = simp (and-false, or-false) at h

  pub form-date : form_good type_d size decimals ≡ true → size ≡ 8
  unfolding form_good
  form-date h = eqb-true _ _ (both (eqb decimals 0) (eqb size 8) (simp or-false at h)).1

  pub form_logical : form_good type_l size decimals ≡ true → size ≡ 1
  unfolding form_good
  form_logical h = eqb-true _ _ (both (eqb decimals 0) (eqb size 1) (simp or-false at h)).1

  pub form_memo : form_good type_m size decimals ≡ true → size ≡ 10
  unfolding form_good
  form_memo h = eqb-true _ _ (both (eqb decimals 0) (eqb size 10) h).1
