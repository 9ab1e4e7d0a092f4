-- Rules: the refusals and their numbers, "refused by number"; an answer as the rules give it.
use Rattle.std.specs.Prelude.{ℕ, Result, Ok, Err}
use Rattle.refusal.specs.declared.Refusal.{Refusal}
use Rattle.refusal.specs.declared.Refusal.TheVariants as refusal

-- the number that the papers give a refusal
abbrev pub refusal_number : Refusal → ℕ
refusal_number refusal.TableSize = 1
refusal_number refusal.TableKind = 2
refusal_number refusal.UpdateDate = 3
refusal_number refusal.HeaderLength = 4
refusal_number refusal.HeaderEndMark = 5
refusal_number refusal.FieldDescriptor = 6
refusal_number refusal.FieldNameTwice = 7
refusal_number refusal.MemoFieldAndKind = 8
refusal_number refusal.RecordLength = 9
refusal_number refusal.TableLength = 10
refusal_number refusal.RecordNumber = 11
refusal_number refusal.FieldNumber = 12
refusal_number refusal.FieldType = 13
refusal_number refusal.FieldListTooShort = 14
refusal_number refusal.DeletionByte = 15
refusal_number refusal.Comma = 16
refusal_number refusal.NotANumber = 17
refusal_number refusal.TooManyDigits = 18
refusal_number refusal.DoesNotFit = 19
refusal_number refusal.DateOrLogical = 20
refusal_number refusal.MemoNumberOrPlace = 21
refusal_number refusal.MemoHeader = 22
refusal_number refusal.MemoNotText = 23
refusal_number refusal.IndexHeader = 24
refusal_number refusal.IndexNotSound = 25
refusal_number refusal.KeyLength = 27
refusal_number refusal.RecordNumberZero = 28
refusal_number refusal.KeyPresent = 29
refusal_number refusal.NoRoom = 30
refusal_number refusal.IndexAndTableDiffer = 31
refusal_number refusal.ControlByte = 32
refusal_number refusal.KeyAbsent = 33
refusal_number refusal.NoKey = 34
refusal_number refusal.BarcodeAbsent = 35
refusal_number refusal.NoConcentration = 36
refusal_number refusal.TargetOrVolume = 37
refusal_number refusal.TargetAboveConcentration = 38
refusal_number refusal.ListTooShort = 39
refusal_number refusal.ArgumentsOrFiles = 40

-- an answer as the rules give it: the value, or the refusal's number
abbrev pub numbered : {A : Type 0} → Result A Refusal → Result A ℕ
numbered (Ok value) = Ok value
numbered (Err refusal) = Err (refusal_number refusal)
