-- Laws: the text of a D field: its cases, its three parts, one text for a day and one day for an accepted text. Assumes nothing.
use Rattle.std.specs.Prelude.{Err, None, Ok, ℕ, ◌^◌, ◌≤◌, ◌<◌, ◌≡◌, refl, ◌↔◌, Bool, true, false, ◌&&◌, length, take, drop, replicate, leb, eqb, Some, Option, Result}
use Rattle.std.proofs.Math.Nat.{pow-le-pow_right}
use Rattle.std.proofs.Common.{arith, sym, ap, ◌∙◌, length-append, length-take, length-drop, take_all, take-add, drop-drop, length-take-le, take_at, lit<, leb-true, le-leb, eqb-true, ne_eqb}
use mathlib.Core.List.{List, ◌++◌, append_assoc}
use Rattle.std.proofs.Math.Seq.{drop_at}
use Rattle.std.proofs.lemmas.Bool.{eqb-false}
use Rattle.basis.specs.Tests.{either, both, impossible}
use Rattle.octets.specs.Text.{every, blank, is_digit, number_of, digits_of, last_digits}
use Rattle.octets.specs.TextLaws.{every_append, blanks_are, digits_no_blanks, digits-read, digits-unread}
use Rattle.octets.specs.DigitLaws.{length-last_digits, last_digits-digits, number-last, number_bound, last-number}
use Rattle.calendar.specs.Calendar.{is_date}
use Rattle.calendar.specs.CalendarLaws.{date-range}
use Rattle.calendar.specs.DateText.{bad_date_text, max_year, year_part, month_part, day_part, is_field_date, date_of_numbers, date_of}
use Rattle.calendar.specs.declared.Date.{Date}
use Rattle.calendar.specs.DateText.{DateAnswer}

-- ---- the rule's cases

pub date-length : (text : List ℕ) → (length text ≡ 8 → ⊥) → date_of text ≡ Err bad_date_text
unfolding date_of
date-length text other = rw (ne_eqb (length text) 8 other)

module _ (text : List ℕ) (eight : length text ≡ 8) where
  pub date-empty : every (eqb blank) text ≡ true → date_of text ≡ Ok None
  unfolding date_of
  date-empty blanks = rw (eight, blanks)

  module _ (nonblank : every (eqb blank) text ≡ false) where
    date-other : every is_digit text ≡ false → date_of text ≡ Err bad_date_text
    unfolding date_of
    date-other other = rw (eight, nonblank, other)

    date-digits : every is_digit text ≡ true
        → date_of text ≡ date_of_numbers (number_of (year_part text)) (number_of (month_part text)) (number_of (day_part text))
    unfolding date_of
    date-digits all = rw (eight, nonblank, all)

-- the day that a text's numbers name
abbrev named : List ℕ → Date
named text = record { year = number_of (year_part text); month = number_of (month_part text); day = number_of (day_part text) }

-- a D field holds the day
abbrev holds : Date → Bool
holds day = is_field_date day.year day.month day.day

-- the answer for the numbers of a day
day_accepted : (day : Date) → holds day ≡ true → date_of_numbers day.year day.month day.day ≡ Ok (Some day)
unfolding date_of_numbers
day_accepted day good = rw good

day_refused : (day : Date) → holds day ≡ false → date_of_numbers day.year day.month day.day ≡ Err bad_date_text
unfolding date_of_numbers
day_refused day bad = rw bad

-- a text is refused, empty or eight digits that name its day
by_cases : {X : Type 0} (text : List ℕ) → (date_of text ≡ Err bad_date_text → X)
    → (length text ≡ 8 → every (eqb blank) text ≡ true → date_of text ≡ (Ok None) → X)
    → (length text ≡ 8 → every is_digit text ≡ true → holds (named text) ≡ true → date_of text ≡ Ok (Some (named text)) → X) → X
by_cases text refused empty value =
    either (eqb (length text) 8)
    (λ long. let eight = eqb-true (length text) 8 long in
    either (every (eqb blank) text)
    (λ blanks. empty eight blanks (date-empty text eight blanks))
    (λ nonblank. either (every is_digit text)
    (λ all. let numbers = date-digits text eight nonblank all in
    either (holds (named text))
    (λ good. value eight all good (numbers ∙ day_accepted (named text) good))
    (λ bad. refused (numbers ∙ day_refused (named text) bad)))
    (λ other. refused (date-other text eight nonblank other))))
    (λ short. refused (date-length text (eqb-false (length text) 8 short)))

-- ---- the three parts

-- eight bytes are their three parts
date-parts : (text : List ℕ) → length text ≡ 8 → text ≡ year_part text ++ month_part text ++ day_part text
date-parts text eight =
    let front = sym (take_all 8 text (omega arith)) ∙ take-add 4 4 text in
    let back = take-add 2 2 (drop 4 text) ∙ ap (λ (l : List ℕ). month_part text ++ take 2 l) (drop-drop 2 4 text) in
    front ∙ rw back (sym (append_assoc (year_part text) (month_part text) (day_part text)))

-- all bytes are digits exactly if those of each part are
parts-digits : (text : List ℕ) → length text ≡ 8
    → every is_digit text ≡ every is_digit (year_part text) && every is_digit (month_part text) && every is_digit (day_part text)
parts-digits text eight = simp every_append at (ap (every is_digit) (date-parts text eight))

-- a number read from the first w bytes is below ten to the w
pub part_bound : (w : ℕ) (s : List ℕ) (n : ℕ) → digits_of (take w s) ≡ Some n → n < 10 ^ w
part_bound w s n is =
    either (every is_digit (take w s))
    (λ all.
    let same : number_of (take w s) ≡ n = cc (digits-read (take w s) all) in
    let few : length (take w s) ≤ w = omega (arith, length-take w s) in
    omega (arith, number_bound (take w s) all, pow-le-pow_right {n = 10} (lit< tt) {i = length (take w s)} {j = w} few))
    (λ other. impossible (cc (digits-unread (take w s) other)))

-- one read from at most four bytes is a year's at most
pub part_small : (s : List ℕ) (n : ℕ) → digits_of s ≡ Some n → length s ≤ 4 → n ≤ max_year
part_small s n is few = let below = part_bound 4 s n (rw (take_all 4 s few) is) in omega arith

-- the answer by what each part reads as
abbrev pub of_parts : Option ℕ → Option ℕ → Option ℕ → DateAnswer
of_parts (Some y) (Some m) (Some d) = date_of_numbers y m d
of_parts (Some y) (Some m) None = Err bad_date_text
of_parts (Some y) None d = Err bad_date_text
of_parts None m d = Err bad_date_text

pub by_parts : (text : List ℕ) → length text ≡ 8 → every (eqb blank) text ≡ false
    → date_of text ≡ of_parts (digits_of (year_part text)) (digits_of (month_part text)) (digits_of (day_part text))
by_parts text eight nonblank =
    let all = parts-digits text eight in
    let other = date-other text eight nonblank in
    either (every is_digit (year_part text))
    (λ y. either (every is_digit (month_part text))
    (λ m. either (every is_digit (day_part text))
    (λ d. date-digits text eight nonblank (all ∙ rw (y, m, d)) ∙ rw (digits-read _ y, digits-read _ m, digits-read _ d))
    (λ d. other (all ∙ rw (y, m, d)) ∙ rw (digits-read _ y, digits-read _ m, digits-unread _ d)))
    (λ m. other (all ∙ rw (y, m)) ∙ rw (digits-read _ y, digits-unread _ m)))
    (λ y. other (all ∙ rw y) ∙ rw (digits-unread _ y))

-- a part as it is read: its number, or the refusal
abbrev pub part_of : Option ℕ → Result ℕ ℕ
part_of (Some n) = Ok n
part_of None = Err bad_date_text

of_bad_year : (y m d : Option ℕ) (n : ℕ) → Err n ≡ part_of y → Err n ≡ of_parts y m d
of_bad_year (Some y) m d n e = impossible (cc)
of_bad_year None m d n e = let same : n ≡ bad_date_text = cc in rw same

of_bad_month : (y m d : Option ℕ) (a n : ℕ) → Ok a ≡ part_of y → Err n ≡ part_of m → Err n ≡ of_parts y m d
of_bad_month (Some y) (Some m) d a n h e = impossible (cc)
of_bad_month (Some y) None d a n h e = let same : n ≡ bad_date_text = cc in rw same
of_bad_month None m d a n h e = impossible (cc)

of_bad_day : (y m d : Option ℕ) (a b n : ℕ) → Ok a ≡ part_of y → Ok b ≡ part_of m → Err n ≡ part_of d → Err n ≡ of_parts y m d
of_bad_day (Some y) (Some m) (Some d) a b n h l e = impossible (cc)
of_bad_day (Some y) (Some m) None a b n h l e = let same : n ≡ bad_date_text = cc in rw same
of_bad_day (Some y) None d a b n h l e = impossible (cc)
of_bad_day None m d a b n h l e = impossible (cc)

of_numbers : (y m d : Option ℕ) (a b c : ℕ) → Ok a ≡ part_of y → Ok b ≡ part_of m → Ok c ≡ part_of d → date_of_numbers a b c ≡ of_parts y m d
of_numbers (Some y) (Some m) (Some d) a b c h l e = let p : a ≡ y = cc in let q : b ≡ m = cc in let r : c ≡ d = cc in rw (p, q, r)
of_numbers (Some y) (Some m) None a b c h l e = impossible (cc)
of_numbers (Some y) None d a b c h l e = impossible (cc)
of_numbers None m d a b c h l e = impossible (cc)

-- the answer for a text that is read part after part
module _ (text : List ℕ) (eight : length text ≡ 8) (nonblank : every (eqb blank) text ≡ false) where
  pub bad_year : (n : ℕ) → Err n ≡ part_of (digits_of (year_part text)) → Err n ≡ date_of text
  bad_year n e = of_bad_year _ _ _ n e ∙ sym (by_parts text eight nonblank)

  module _ (a : ℕ) (year : Ok a ≡ part_of (digits_of (year_part text))) where
    pub bad_month : (n : ℕ) → Err n ≡ part_of (digits_of (month_part text)) → Err n ≡ date_of text
    bad_month n e = of_bad_month _ _ _ a n year e ∙ sym (by_parts text eight nonblank)

    module _ (b : ℕ) (month : Ok b ≡ part_of (digits_of (month_part text))) where
      pub bad_day : (n : ℕ) → Err n ≡ part_of (digits_of (day_part text)) → Err n ≡ date_of text
      bad_day n e = of_bad_day _ _ _ a b n year month e ∙ sym (by_parts text eight nonblank)

      pub good_parts : (c : ℕ) → Ok c ≡ part_of (digits_of (day_part text)) → date_of_numbers a b c ≡ date_of text
      good_parts c day = of_numbers _ _ _ a b c year month day ∙ sym (by_parts text eight nonblank)

-- ---- one text for a date, one date for an accepted text

-- a day as eight digits
unfoldable pub date_text : Date → List ℕ
date_text day = last_digits 4 day.year ++ last_digits 2 day.month ++ last_digits 2 day.day

-- a day that a D field can hold
pub record FieldDate (day : Date) : Type 0 where
  pub year_from : 1 ≤ day.year
  pub year_to : day.year ≤ max_year
  pub date : is_date day.year day.month day.day ≡ true

field_date : (day : Date) → holds day ≡ true → FieldDate day
unfolding is_field_date
field_date day good =
    let whole = both (leb 1 day.year && leb day.year max_year) (is_date day.year day.month day.day) good in
    let years = both (leb 1 day.year) (leb day.year max_year) whole.0 in
    record { year_from = leb-true _ _ years.0; year_to = leb-true _ _ years.1; date = whole.1 }

field_good : (day : Date) → FieldDate day → holds day ≡ true
unfolding is_field_date
field_good day h = rw (le-leb 1 day.year h.year_from, le-leb day.year max_year h.year_to, h.date)

-- the parts of a day's text
module _ (day : Date) where
  text-length : length (date_text day) ≡ 8
  unfolding date_text
  text-length = simp (length-append, length-last_digits)

  text_year : year_part (date_text day) ≡ last_digits 4 day.year
  unfolding date_text
  text_year = rw append_assoc (take_at (last_digits 4 day.year) _ 4 (length-last_digits 4 day.year))

  text_month : month_part (date_text day) ≡ last_digits 2 day.month
  unfolding date_text
  text_month =
      rw (append_assoc, drop_at (last_digits 4 day.year) _ 4 (length-last_digits 4 day.year))
      (take_at (last_digits 2 day.month) _ 2 (length-last_digits 2 day.month))

  text_day : day_part (date_text day) ≡ last_digits 2 day.day
  unfolding date_text
  text_day =
      rw (drop_at (last_digits 4 day.year ++ last_digits 2 day.month) (last_digits 2 day.day) 6 (simp (length-append, length-last_digits)))
      (take_all 2 (last_digits 2 day.day) (omega (arith, length-last_digits 2 day.day)))

  text_digits : every is_digit (date_text day) ≡ true
  unfolding date_text
  text_digits = simp (every_append, last_digits-digits)

-- a day's text is accepted as that day
text_accepted : (day : Date) → FieldDate day → date_of (date_text day) ≡ Ok (Some day)
text_accepted day h =
    let r = date-range day.year day.month day.day h.date in
    let nonblank = digits_no_blanks (date_text day) (omega (arith, text-length day)) (text_digits day) in
    date-digits (date_text day) (text-length day) nonblank (text_digits day)
    ∙ rw (
      text_year day,
      text_month day,
      text_day day,
      number-last 4 day.year (omega (arith, h.year_to)),
      number-last 2 day.month (omega (arith, r.month_to)),
      number-last 2 day.day (omega (arith, r.day_31)),
    )
    (day_accepted day (field_good day h))

-- w digits are the last w digits of their number
part-back : (s : List ℕ) (w : ℕ) → length s ≡ w → every is_digit s ≡ true → last_digits w (number_of s) ≡ s
unfolding number_of
part-back s w long all = rw long at (last-number 0 s all)

-- eight digits are the text of the day that they name
digits_are : (text : List ℕ) → length text ≡ 8 → every is_digit text ≡ true → text ≡ date_text (named text)
unfolding date_text
digits_are text eight all =
    let whole = both (every is_digit (year_part text) && every is_digit (month_part text)) (every is_digit (day_part text)) (sym (parts-digits text eight) ∙ all) in
    let front = both (every is_digit (year_part text)) (every is_digit (month_part text)) whole.0 in
    date-parts text eight
    ∙ sym
    (rw (
      part-back (year_part text) 4 (length-take-le 4 text (omega arith)) front.0,
      part-back (month_part text) 2 (length-take-le 2 (drop 4 text) (rw length-drop (omega arith))) front.1,
      part-back (day_part text) 2 (length-take-le 2 (drop 6 text) (rw length-drop (omega arith))) whole.1,
    ))

-- an accepted text is the text of its day
accepted_text : (text : List ℕ) (day : Date) → date_of text ≡ Ok (Some day) → (text ≡ date_text day) × FieldDate day
accepted_text text day is =
    by_cases text
    (λ refused. impossible (cc))
    (λ eight blanks empty. impossible (cc))
    (λ eight all good value. let same : named text ≡ day = cc in
    (digits_are text eight all ∙ ap date_text same, rw same at (field_date (named text) good)))

-- a text is accepted as a day exactly if it is the day's text, and a D field can hold the day
pub date-accepted : (text : List ℕ) (day : Date) → date_of text ≡ Ok (Some day) ↔ (text ≡ date_text day) × FieldDate day
date-accepted text day = (accepted_text text day, λ h. rw h.0 (text_accepted day h.1))

-- so a day has one text
pub date-one_text : (s t : List ℕ) (day : Date) → date_of s ≡ Ok (Some day) → date_of t ≡ Ok (Some day) → s ≡ t
date-one_text s t day p q = (accepted_text s day p).0 ∙ sym (accepted_text t day q).0

-- ---- the other answers

-- a text is empty exactly if it is eight blanks
pub date_blanks : (text : List ℕ) → date_of text ≡ (Ok None) ↔ text ≡ replicate 8 blank
unfolding every
date_blanks text = (
  λ is.
      by_cases text
      (λ refused. impossible (cc))
      (λ eight blanks empty. rw eight at (blanks_are text blanks))
      (λ eight all good value. impossible (cc)),
  λ is. rw is (date-empty (replicate 8 blank) refl refl),
)

-- a refusal is 20
pub date-refusal : (text : List ℕ) (n : ℕ) → date_of text ≡ Err n → n ≡ bad_date_text
date-refusal text n is =
    by_cases text
    (λ refused. cc)
    (λ eight blanks empty. impossible (cc))
    (λ eight all good value. impossible (cc))
