-- Laws: a number tells which refusal it is, so an answer by number says no less than the answer. Assumes nothing.
use Rattle.std.specs.Prelude.{◌≡◌, List, [], ◌∷◌, Result, Ok, Err, get_or}
use Rattle.std.proofs.Math.Path.{refl}
use Rattle.std.proofs.Common.{sym, ap, ◌∙◌, arith}
use Rattle.refusal.specs.Refusals.{refusal_number, numbered}
use Rattle.refusal.specs.declared.Refusal.{Refusal}
use Rattle.refusal.specs.declared.Refusal.TheVariants as refusal

-- each refusal at the place of its number; no refusal has the number 0 or 26
abbrev pub by_number : List Refusal
by_number =
    refusal.TableSize ∷ refusal.TableSize ∷ refusal.TableKind ∷ refusal.UpdateDate ∷ refusal.HeaderLength ∷ refusal.HeaderEndMark ∷
    refusal.FieldDescriptor ∷ refusal.FieldNameTwice ∷ refusal.MemoFieldAndKind ∷ refusal.RecordLength ∷ refusal.TableLength ∷ refusal.RecordNumber ∷
    refusal.FieldNumber ∷ refusal.FieldType ∷ refusal.FieldListTooShort ∷ refusal.DeletionByte ∷ refusal.Comma ∷ refusal.NotANumber ∷
    refusal.TooManyDigits ∷ refusal.DoesNotFit ∷ refusal.DateOrLogical ∷ refusal.MemoNumberOrPlace ∷ refusal.MemoHeader ∷ refusal.MemoNotText ∷
    refusal.IndexHeader ∷ refusal.IndexNotSound ∷ refusal.TableSize ∷ refusal.KeyLength ∷ refusal.RecordNumberZero ∷ refusal.KeyPresent ∷
    refusal.NoRoom ∷ refusal.IndexAndTableDiffer ∷ refusal.ControlByte ∷ refusal.KeyAbsent ∷ refusal.NoKey ∷ refusal.BarcodeAbsent ∷
    refusal.NoConcentration ∷ refusal.TargetOrVolume ∷ refusal.TargetAboveConcentration ∷ refusal.ListTooShort ∷ refusal.ArgumentsOrFiles ∷ []

pub refusal-at : (r : Refusal) → get_or by_number (refusal_number r) refusal.TableSize ≡ r
refusal-at refusal.TableSize = refl
refusal-at refusal.TableKind = refl
refusal-at refusal.UpdateDate = refl
refusal-at refusal.HeaderLength = refl
refusal-at refusal.HeaderEndMark = refl
refusal-at refusal.FieldDescriptor = refl
refusal-at refusal.FieldNameTwice = refl
refusal-at refusal.MemoFieldAndKind = refl
refusal-at refusal.RecordLength = refl
refusal-at refusal.TableLength = refl
refusal-at refusal.RecordNumber = refl
refusal-at refusal.FieldNumber = refl
refusal-at refusal.FieldType = refl
refusal-at refusal.FieldListTooShort = refl
refusal-at refusal.DeletionByte = refl
refusal-at refusal.Comma = refl
refusal-at refusal.NotANumber = refl
refusal-at refusal.TooManyDigits = refl
refusal-at refusal.DoesNotFit = refl
refusal-at refusal.DateOrLogical = refl
refusal-at refusal.MemoNumberOrPlace = refl
refusal-at refusal.MemoHeader = refl
refusal-at refusal.MemoNotText = refl
refusal-at refusal.IndexHeader = refl
refusal-at refusal.IndexNotSound = refl
refusal-at refusal.KeyLength = refl
refusal-at refusal.RecordNumberZero = refl
refusal-at refusal.KeyPresent = refl
refusal-at refusal.NoRoom = refl
refusal-at refusal.IndexAndTableDiffer = refl
refusal-at refusal.ControlByte = refl
refusal-at refusal.KeyAbsent = refl
refusal-at refusal.NoKey = refl
refusal-at refusal.BarcodeAbsent = refl
refusal-at refusal.NoConcentration = refl
refusal-at refusal.TargetOrVolume = refl
refusal-at refusal.TargetAboveConcentration = refl
refusal-at refusal.ListTooShort = refl
refusal-at refusal.ArgumentsOrFiles = refl

-- refusals of one number are one refusal
pub same-refusal : (r q : Refusal) → refusal_number r ≡ refusal_number q → r ≡ q
same-refusal r q e = sym (refusal-at r) ∙ (ap (λ n. get_or by_number n refusal.TableSize) e ∙ refusal-at q)

-- no refusal has the number 0, an accepted call's
pub refusal-some : (r : Refusal) → refusal_number r ≡ 0 → ⊥
refusal-some refusal.TableSize e = omega arith
refusal-some refusal.TableKind e = omega arith
refusal-some refusal.UpdateDate e = omega arith
refusal-some refusal.HeaderLength e = omega arith
refusal-some refusal.HeaderEndMark e = omega arith
refusal-some refusal.FieldDescriptor e = omega arith
refusal-some refusal.FieldNameTwice e = omega arith
refusal-some refusal.MemoFieldAndKind e = omega arith
refusal-some refusal.RecordLength e = omega arith
refusal-some refusal.TableLength e = omega arith
refusal-some refusal.RecordNumber e = omega arith
refusal-some refusal.FieldNumber e = omega arith
refusal-some refusal.FieldType e = omega arith
refusal-some refusal.FieldListTooShort e = omega arith
refusal-some refusal.DeletionByte e = omega arith
refusal-some refusal.Comma e = omega arith
refusal-some refusal.NotANumber e = omega arith
refusal-some refusal.TooManyDigits e = omega arith
refusal-some refusal.DoesNotFit e = omega arith
refusal-some refusal.DateOrLogical e = omega arith
refusal-some refusal.MemoNumberOrPlace e = omega arith
refusal-some refusal.MemoHeader e = omega arith
refusal-some refusal.MemoNotText e = omega arith
refusal-some refusal.IndexHeader e = omega arith
refusal-some refusal.IndexNotSound e = omega arith
refusal-some refusal.KeyLength e = omega arith
refusal-some refusal.RecordNumberZero e = omega arith
refusal-some refusal.KeyPresent e = omega arith
refusal-some refusal.NoRoom e = omega arith
refusal-some refusal.IndexAndTableDiffer e = omega arith
refusal-some refusal.ControlByte e = omega arith
refusal-some refusal.KeyAbsent e = omega arith
refusal-some refusal.NoKey e = omega arith
refusal-some refusal.BarcodeAbsent e = omega arith
refusal-some refusal.NoConcentration e = omega arith
refusal-some refusal.TargetOrVolume e = omega arith
refusal-some refusal.TargetAboveConcentration e = omega arith
refusal-some refusal.ListTooShort e = omega arith
refusal-some refusal.ArgumentsOrFiles e = omega arith

-- answers of one value or number are one answer
pub same_answer : {A : Type 0} (r q : Result A Refusal) → numbered r ≡ numbered q → r ≡ q
same_answer (Ok a) (Ok b) e = cc
same_answer (Ok a) (Err q) e = cc
same_answer (Err r) (Ok b) e = cc
same_answer (Err r) (Err q) e =
    let n : refusal_number r ≡ refusal_number q = cc in
    rw (same-refusal r q n)
