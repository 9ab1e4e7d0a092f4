-- Laws: an answer's number tells its case. 0 is given exactly if the call is accepted, 256 exactly for an empty field, 257 exactly for an absent key and 258
-- exactly at the end of a walk, since no refusal has any of these numbers. Assumes nothing.
use Rattle.std.specs.Prelude.{ℕ, zero, suc, ◌+◌, ◌-◌, ◌≤◌, ◌≡◌, refl, Bool, true, false, ◌&&◌, cond, List, [], ◌∷◌, ◌↔◌, ◌⊎◌, length, ℤ, eqb, ltb}
use Rattle.std.specs.Prelude.{Option, None, Some, Ok, Err}
use Rattle.std.proofs.Common.{sym, ◌∙◌, inl, inr, arith, lit<, ne_eqb, ltb-true}
use Rattle.std.proofs.Math.Path.{ap}
use Rattle.std.proofs.lemmas.Bool.{eqb-false}
use Rattle.basis.specs.Lists.{All}
use Rattle.basis.specs.Tests.{either, both, impossible}
use Rattle.refusal.specs.After.{After, Change, change_code, made_unless}
use Rattle.refusal.specs.AfterLaws.{made-number}
use Rattle.refusal.specs.CheckLaws.{Refuses, first_below, unless-cases}
use Rattle.calendar.specs.declared.Date.{Date}
use Rattle.calendar.specs.DateText.{DateAnswer}
use Rattle.numeral.specs.Reading.{read_number}
use Rattle.numeral.specs.Writing.{write_checks, write_number}
use Rattle.numeral.specs.Format.{Number}
use Rattle.dbf_table.specs.Table.{Checked, record_count, kept_mark, deleted_mark, table_checks, table_refusal, check_table}
use Rattle.dbf_table.specs.TableLaws.{refused_check}
use Rattle.dbf_table.specs.declared.Shape.{Shape}
use Rattle.dbf_walk.specs.Walk.{Step, handed, marks_from, shown, step_at, first_of, step_from, step_by}
use Rattle.dbf_walk.specs.declared.Position.{Position}
use Rattle.idx_page.specs.Header.{max_levels, no_page, root_offset, file_size, key_length, features, header_good}
use Rattle.idx_page.specs.Page.{attribute_at, count_at, right_at, leaf_bit, key_at, number_at, page_good, first_at_or_above}
use Rattle.idx_page.specs.declared.PageOffset.{PageOffset}
use Rattle.idx_page.specs.declared.RecordNumber.{RecordNumber}
use Rattle.fpt_memo.specs.Memo.{span}
use Rattle.dbf_cell.specs.Cell.{Logical, TextAnswer, number_cell, date_cell, logical_cell, text_cell}
use Rattle.dbf_cell.specs.Codes.{empty_code, number_code, date_code, logical_code, text_code}
use Rattle.dbf_cell.specs.AnswerLaws.{Numbered, table_below, number-numbered, number-refusal, day_refusal, logical-refusal, place-refusal}
use Rattle.dbf_cell.specs.declared.TextPlace.TheVariants as text
use Rattle.octets.specs.Order.{ordering, is_equal}
use Rattle.idx_lookup.specs.FirstRecord.{record_of, entry_decides, neighbour_decides, first_from}
use Rattle.idx_lookup.specs.Lookup.{page_says, visit_rule, decided, lookup_from, lookup_steps, lookup_rule, absent_code, lookup_code}
use Rattle.idx_lookup.specs.Visit.{Visit}
use Rattle.idx_lookup.specs.Visit as visit
use Rattle.idx_lookup.specs.Answer.{Answer}
use Rattle.idx_lookup.specs.Answer as looked
use Rattle.idx_insert.specs.Fresh.{fresh_checks, fresh_rule}
use Rattle.idx_insert.specs.Calls.{insert_checks, insert_rule}
use Rattle.idx_remove.specs.Calls.{remove_checks, remove_rule}
use Rattle.dbf_calls.specs.Answers.{checked_code}
use Rattle.dbf_calls.specs.Lent.{done_code, step_code}

-- ---- what a number tells, of any answer

-- the cases of an answer with number n: accepted, the one case that has the number `own`, or refused
data Case (n own : ℕ) (Accepted Other : Type 0) : Type 0 where
  accepted : n ≡ 0 → Accepted → Case n own Accepted Other
  other : n ≡ own → Other → Case n own Accepted Other
  refused : Numbered n → Case n own Accepted Other

-- the number is 0 exactly if the call is accepted, and `own` exactly in the case that has it
pub record Told (n own : ℕ) (Accepted Other : Type 0) : Type 0 where
  pub on-zero : (n ≡ 0) ↔ Accepted
  pub on-own : (n ≡ own) ↔ Other

module _ {n own : ℕ} {Accepted Other : Type 0} (high : empty_code ≤ own) where
  zero-accepted : Case n own Accepted Other → n ≡ 0 → Accepted
  zero-accepted (accepted e a) z = a
  zero-accepted (other e o) z = absurd (omega (arith, e, z))
  zero-accepted (refused small) z = absurd (omega (arith, z))

  own-other : Case n own Accepted Other → n ≡ own → Other
  own-other (accepted e a) z = absurd (omega (arith, e, z))
  own-other (other e o) z = o
  own-other (refused small) z = absurd (omega (arith, z))

  told : Case n own Accepted Other → (Accepted → n ≡ 0) → (Other → n ≡ own) → Told n own Accepted Other
  told case a o = record { on-zero = (zero-accepted case, a); on-own = (own-other case, o) }

-- the refusals of an answer have numbers of refusals
abbrev RefusalsNumbered : {A : Type 0} → (ℕ → A) → A → Type 0
RefusalsNumbered refusal a = (n : ℕ) → a ≡ refusal n → Numbered n

-- ---- the check of a table

table-refusal : (b : List ℕ) (n : ℕ) → eqb (table_refusal b) 0 ≡ false → table_refusal b ≡ n → Numbered n
unfolding table_refusal
table-refusal b n some e =
    let small = first_below empty_code (table_checks b) (lit< tt) (table_below b) in
    let none = eqb-false (table_refusal b) 0 some in
    (omega (arith, e), omega (arith, e))

check_refusal : (b : List ℕ) → RefusalsNumbered Err (check_table b)
check_refusal b n e =
    let said = refused_check b n e in
    table-refusal b n (ne_eqb (table_refusal b) 0 (λ z. said.1 (said.0 ∙ z))) (sym said.0)

abbrev pub IsGood : Checked → Type 0
IsGood a = (s : Shape) × (a ≡ Ok s)

check_case : (a : Checked) → RefusalsNumbered Err a → Case (checked_code a) empty_code (IsGood a) ⊥
check_case (Ok s) small = accepted refl (s, refl)
check_case (Err n) small = refused (small n refl)

-- 0 is given exactly for a good table; 256 is never given
pub shape_told : (b : List ℕ) → Told (checked_code (check_table b)) empty_code (IsGood (check_table b)) ⊥
shape_told b = told (omega arith) (check_case (check_table b) (check_refusal b)) (λ good. ap checked_code good.1) (λ none. absurd none)

-- ---- the walks

at-refusal : (r : ℕ × ℕ) → RefusalsNumbered Err (step_at r)
unfolding step_at
at-refusal r n e =
    either (eqb r.1 kept_mark)
    (λ kept. let q : handed r.0 false ≡ Err n = rw kept at e in impossible (cc))
    (λ other. either (eqb r.1 deleted_mark)
    (λ deleted. let q : handed r.0 true ≡ Err n = rw (other, deleted) at e in impossible (cc))
    (λ bad. let q : ◌≡◌ {A = Step} (Err 15) (Err n) = rw (other, bad) at e in let k : 15 ≡ n = cc in (omega arith, omega arith)))

next-refusal : (position : ℕ) (marks : List (ℕ × ℕ)) → RefusalsNumbered Err (first_of position marks).answer
next-refusal position [] n e = impossible (cc)
next-refusal position (r ∷ rest) n e = at-refusal r n e

abbrev pub IsRecord : Step → Type 0
IsRecord a = (i : ℕ) × (deleted : Bool) × (a ≡ handed i deleted)

step_case : (a : Step) → RefusalsNumbered Err a → Case (step_code a) done_code (IsRecord a) (a ≡ Ok None)
step_case (Ok (Some r)) small = accepted refl (r.number, r.deleted, refl)
step_case (Ok None) small = other refl refl
step_case (Err n) small = refused (small n refl)

-- of either walk
module _ (skips : Bool) (b : List ℕ) (position : Position) where
  step-refusal : RefusalsNumbered Err (step_by skips b position).answer
  unfolding step_by step_from
  step-refusal n e =
      let passed = position.passed in
      either (eqb (table_refusal b) 0)
      (λ good. next-refusal passed (shown skips (marks_from b passed (record_count b - passed))) n (rw good at e))
      (λ bad. let q : ◌≡◌ {A = Step} (Err (table_refusal b)) (Err n) = rw bad at e in table-refusal b n bad (cc))

  -- 0 is given exactly for a record, 258 exactly if the walk is done
  pub walk-told : let a = (step_by skips b position).answer in Told (step_code a) done_code (IsRecord a) (a ≡ Ok None)
  walk-told =
      told (omega arith) (step_case (step_by skips b position).answer step-refusal) (λ found. ap step_code found.2) (λ done. ap step_code done)

-- ---- one field of one record, and numeric text: 0 with a value, 256 for an empty field

abbrev pub IsValue : Number → Type 0
IsValue a = (v : ℤ) × (a ≡ Ok (Some v))

number-case : (a : Number) → RefusalsNumbered Err a → Case (number_code a) empty_code (IsValue a) (a ≡ Ok None)
unfolding number_code
number-case (Ok (Some v)) small = accepted refl (v, refl)
number-case (Ok None) small = other refl refl
number-case (Err n) small = refused (small n refl)

value-told : (a : Number) → RefusalsNumbered Err a → Told (number_code a) empty_code (IsValue a) (a ≡ Ok None)
unfolding number_code
value-told a small = told (omega arith) (number-case a small) (λ value. ap number_code value.1) (λ empty. ap number_code empty)

pub read_told : (text : List ℕ) (d : ℕ) → let a = read_number text d in Told (number_code a) empty_code (IsValue a) (a ≡ Ok None)
read_told text d = value-told (read_number text d) (number-numbered text d)

abbrev pub IsDay : DateAnswer → Type 0
IsDay a = (d : Date) × (a ≡ Ok (Some d))

date-case : (a : DateAnswer) → RefusalsNumbered Err a → Case (date_code a) empty_code (IsDay a) (a ≡ Ok None)
unfolding date_code
date-case (Ok (Some d)) small = accepted refl (d, refl)
date-case (Ok None) small = other refl refl
date-case (Err n) small = refused (small n refl)

abbrev pub IsLogical : Logical → Type 0
IsLogical a = (v : Bool) × (a ≡ Ok (Some v))

logical_case : (a : Logical) → RefusalsNumbered Err a → Case (logical_code a) empty_code (IsLogical a) (a ≡ Ok None)
unfolding logical_code
logical_case (Ok (Some v)) small = accepted refl (v, refl)
logical_case (Ok None) small = other refl refl
logical_case (Err n) small = refused (small n refl)

-- a place in the table or in the memo file
abbrev pub IsText : TextAnswer → Type 0
IsText a = (start len : ℕ) × ((a ≡ Ok (Some (text.Table (span start len)))) ⊎ (a ≡ Ok (Some (text.Memo (span start len)))))

text_case : (a : TextAnswer) → RefusalsNumbered Err a → Case (text_code a) empty_code (IsText a) (a ≡ Ok None)
unfolding text_code
text_case (Ok (Some (text.Table place))) small = accepted refl (place.start, place.len, inl refl)
text_case (Ok (Some (text.Memo place))) small = accepted refl (place.start, place.len, inr refl)
text_case (Ok None) small = other refl refl
text_case (Err n) small = refused (small n refl)

located : (a : TextAnswer) (start len : ℕ)
    → (a ≡ Ok (Some (text.Table (span start len)))) ⊎ (a ≡ Ok (Some (text.Memo (span start len)))) → text_code a ≡ 0
unfolding text_code
located a start len (inl e) = ap text_code e
located a start len (inr e) = ap text_code e

module _ (b : List ℕ) (i field : ℕ) where
  pub number-told : let a = number_cell b i field in Told (number_code a) empty_code (IsValue a) (a ≡ Ok None)
  number-told = value-told (number_cell b i field) (number-refusal b i field)

  pub date-told : let a = date_cell b i field in Told (date_code a) empty_code (IsDay a) (a ≡ Ok None)
  unfolding date_code
  date-told = told (omega arith) (date-case (date_cell b i field) (day_refusal b i field)) (λ day. ap date_code day.1) (λ empty. ap date_code empty)

  pub logical_told : let a = logical_cell b i field in Told (logical_code a) empty_code (IsLogical a) (a ≡ Ok None)
  unfolding logical_code
  logical_told =
      told (omega arith) (logical_case (logical_cell b i field) (logical-refusal b i field)) (λ value. ap logical_code value.1) (λ empty. ap logical_code empty)

  pub text_told : (m : List ℕ) → let a = text_cell b m i field in Told (text_code a) empty_code (IsText a) (a ≡ Ok None)
  unfolding text_code
  text_told m =
      told (omega arith) (text_case (text_cell b m i field) (λ n. place-refusal b i field n m))
      (λ place. located (text_cell b m i field) place.0 place.1 place.2) (λ empty. ap text_code empty)

-- ---- lookup: 0 with a record's number, 257 for an absent key

looked-numbered : (m n : ℕ) → Numbered m → ◌≡◌ {A = Answer} (Err m) (Err n) → Numbered n
looked-numbered m n small e = let k : m ≡ n = cc in (omega arith, omega arith)

decided-refusal : (go : PageOffset → Answer) → ((c : PageOffset) → RefusalsNumbered Err (go c))
    → (pages : ℕ) (v : Visit PageOffset) → RefusalsNumbered Err (decided go pages v)
decided-refusal go small pages visit.Absent n e = impossible (cc)
decided-refusal go small pages (visit.Found r) n e = impossible (cc)
decided-refusal go small pages (visit.Child c) n e = small c n e

from-refusal : (left : ℕ) (b key : List ℕ) (p : ℕ) → RefusalsNumbered Err (lookup_from left b key p)
unfolding lookup_from visit_rule
from-refusal zero b key p n e = looked-numbered 25 n (lit< tt, lit< tt) e
from-refusal (suc left) b key p n e =
    either (page_good b (length key) (file_size b) p (eqb (max_levels - left) 1) (eqb left 0))
    (λ good. decided-refusal (λ c. lookup_from left b key c.0) (λ c. from-refusal left b key c.0) (max_levels - left) (page_says b key p) n
    (rw (good, visit_rule) at e))
    (λ bad. looked-numbered 25 n (lit< tt, lit< tt) (rw (bad, visit_rule) at e))

-- with several records to a key: an entry decides without a refusal
found-or-absent : (t : Bool) (r : RecordNumber) (pages : ℕ) → RefusalsNumbered Err (cond t (looked.found r pages) (looked.absent pages))
found-or-absent true r pages n e = impossible (cc)
found-or-absent false r pages n e = impossible (cc)

entry-refusal : (b key : List ℕ) (pages p i : ℕ) → RefusalsNumbered Err (entry_decides b key pages p i)
unfolding entry_decides
entry-refusal b key pages p i n e =
    found-or-absent (is_equal (ordering (key_at b (length key) p i) key)) (record_of (number_at b (length key) p i)) pages n e

neighbour-refusal : (b key : List ℕ) (pages q : ℕ) → RefusalsNumbered Err (neighbour_decides b key pages q)
unfolding neighbour_decides
neighbour-refusal b key pages q n e =
    either (eqb q no_page)
    (λ none. let q : looked.absent pages ≡ Err n = rw (none, neighbour_decides) at e in impossible (cc))
    (λ some. either (page_good b (length key) (file_size b) q false true)
    (λ good. entry-refusal b key (pages + 1) q 0 n (rw (some, good, neighbour_decides) at e))
    (λ bad. looked-numbered 25 n (lit< tt, lit< tt) (rw (some, bad, neighbour_decides) at e)))

first-refusal : (left : ℕ) (b key : List ℕ) (p : ℕ) → RefusalsNumbered Err (first_from left b key p)
unfolding first_from
first-refusal zero b key p n e = looked-numbered 25 n (lit< tt, lit< tt) e
first-refusal (suc left) b key p n e =
    let i = first_at_or_above (key_at b (length key) p) key (count_at b p) 0 in
    either (page_good b (length key) (file_size b) p (eqb (max_levels - left) 1) (eqb left 0))
    (λ good. either (eqb i (count_at b p))
    (λ past. either (eqb (max_levels - left) 1)
    (λ root. let q : looked.absent (max_levels - left) ≡ Err n = rw (good, past, root, first_from) at e in impossible (cc))
    (λ lower. either (leaf_bit (attribute_at b p))
    (λ leaf. neighbour-refusal b key (max_levels - left) (right_at b p) n (rw (good, past, lower, leaf, first_from) at e))
    (λ above. first-refusal left b key (number_at b (length key) p (count_at b p - 1)) n (rw (good, past, lower, above, first_from) at e))))
    (λ here. either (leaf_bit (attribute_at b p))
    (λ leaf. entry-refusal b key (max_levels - left) p i n (rw (good, here, leaf, first_from) at e))
    (λ above. first-refusal left b key (number_at b (length key) p i) n (rw (good, here, above, first_from) at e))))
    (λ bad. looked-numbered 25 n (lit< tt, lit< tt) (rw (bad, first_from) at e))

steps-refusal : (f : ℕ) (b key : List ℕ) → RefusalsNumbered Err (lookup_steps f b key)
steps-refusal zero b key = first-refusal max_levels b key (root_offset b)
steps-refusal (suc f) b key = from-refusal max_levels b key (root_offset b)

lookup-refusal : (b key : List ℕ) → RefusalsNumbered Err (lookup_rule b key)
unfolding lookup_rule
lookup-refusal b key n e =
    unless-cases Err (lookup_steps (features b) b key) Numbered ((header_good b, 24) ∷ (eqb (length key) (key_length b), 27) ∷ [])
    ((λ bad. (lit< tt, lit< tt)), ((λ bad. (lit< tt, lit< tt)), tt))
    (λ held made. steps-refusal (features b) b key n (sym made ∙ e))
    (λ m small refused. looked-numbered m n small (sym refused ∙ e))

abbrev pub IsFound : Answer → Type 0
IsFound a = (r : RecordNumber) × (pages : ℕ) × (a ≡ looked.found r pages)

abbrev pub IsAbsent : Answer → Type 0
IsAbsent a = (pages : ℕ) × (a ≡ looked.absent pages)

outcome-case : (found : Option RecordNumber) (pages : ℕ)
    → let a : Answer = Ok (record { found = found; pages = pages }) in Case (lookup_code a) absent_code (IsFound a) (IsAbsent a)
outcome-case (Some r) pages = accepted refl (r, pages, refl)
outcome-case None pages = other refl (pages, refl)

lookup-case : (a : Answer) → RefusalsNumbered Err a → Case (lookup_code a) absent_code (IsFound a) (IsAbsent a)
lookup-case (Ok outcome) small = outcome-case outcome.found outcome.pages
lookup-case (Err n) small = refused (small n refl)

pub lookup-told : (b key : List ℕ) → let a = lookup_rule b key in Told (lookup_code a) absent_code (IsFound a) (IsAbsent a)
lookup-told b key =
    told (omega arith) (lookup-case (lookup_rule b key) (lookup-refusal b key)) (λ found. ap lookup_code found.2) (λ absent. ap lookup_code absent.1)

-- ---- the calls that write: 0 is given exactly if the change is made

-- the numbers of checks are those of refusals
numbers : List (Bool × ℕ) → Bool
numbers [] = true
numbers (check ∷ checks) = ltb 0 check.1 && ltb check.1 empty_code && numbers checks

all-numbered : (checks : List (Bool × ℕ)) → numbers checks ≡ true → All (Refuses Numbered) checks
unfolding numbers
all-numbered [] e = tt
all-numbered (check ∷ checks) e =
    let rest = both (ltb 0 check.1 && ltb check.1 empty_code) (numbers checks) e in
    let range = both (ltb 0 check.1) (ltb check.1 empty_code) rest.0 in
    ((λ bad. (ltb-true 0 check.1 range.0, ltb-true check.1 empty_code range.1)), all-numbered checks rest.1)

change_case : (a : Change) → RefusalsNumbered Err a → Case (change_code a) empty_code (a ≡ Ok tt) ⊥
change_case (Ok done) small = accepted refl refl
change_case (Err n) small = refused (small n refl)

-- what is told of a call's answer
abbrev pub ChangeTold : After Change → Type 0
ChangeTold call = Told (change_code call.answer) empty_code (call.answer ≡ Ok tt) ⊥

change_told : (made b : List ℕ) (checks : List (Bool × ℕ)) → numbers checks ≡ true → ChangeTold (made_unless checks made b)
change_told made b checks small =
    told (omega arith) (change_case (made_unless checks made b).answer (made-number made b Numbered checks (all-numbered checks small)))
    (λ done. ap change_code done) (λ none. absurd none)

pub write-told : (s : List ℕ) (d : ℕ) (v : ℤ) → ChangeTold (write_number s d v)
unfolding write_number write_checks numbers
write-told s d v = change_told _ s (write_checks s d v) refl

pub fresh-told : (b : List ℕ) (k f : ℕ) (x : List ℕ) → ChangeTold (fresh_rule b k f x)
unfolding fresh_rule fresh_checks numbers
fresh-told b k f x = change_told _ b (fresh_checks b k f x) refl

pub insert-told : (b key : List ℕ) (r : ℕ) → ChangeTold (insert_rule b key r)
unfolding insert_rule insert_checks numbers
insert-told b key r = change_told _ b (insert_checks b key r) refl

pub remove-told : (b key : List ℕ) (r : ℕ) → ChangeTold (remove_rule b key r)
unfolding remove_rule remove_checks numbers
remove-told b key r = change_told _ b (remove_checks b key r) refl
