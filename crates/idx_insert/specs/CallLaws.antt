-- Laws: the cases of insertion and of fresh, each from the tests that lead to it. Cited by the proofs of the two calls. Assumes nothing.
use Rattle.std.specs.Prelude.{ℕ, ◌≤◌, ◌<◌, ◌≡◌, refl, Bool, true, false, ◌&&◌, ◌||◌, length, eqb, leb, ltb, Err, Ok}
use Rattle.std.proofs.Common.{sym, ◌∙◌}
use Rattle.std.specs.List.{list_any, list_all}
use Rattle.std.proofs.Math.Path.{ap}
use Rattle.std.proofs.Math.Bool.{not}
use mathlib.Core.List.{List, [], ◌∷◌}
use borrow.Author.Tests.{eq-eqb, ne_eqb, leb-true, le-leb, lt-leb}
use Rattle.basis.specs.Tests.{both}
use Rattle.refusal.specs.After.{left}
use Rattle.refusal.specs.Refusals.{refusal_number}
use Rattle.refusal.specs.RefusalLaws.{refusal-some}
use Rattle.refusal.specs.declared.Refusal.{Refusal}
use Rattle.idx_sound.specs.Sound.{Audited}
use Rattle.idx_sound.proofs.Accepted.{answer-unsound, audit_unsound}
use Rattle.idx_sound.proofs.AnswerLaws.{one_answer}
use Rattle.refusal.specs.AfterLaws.{made_none, made_at}
use Rattle.octets.specs.Store.{put}
use Rattle.idx_page.specs.Header.{max_features, min_bytes, page_size, no_page, key_length, key_length_good, header_good}
use Rattle.idx_page.specs.Reading.{items}
use Rattle.idx_sound.specs.AuditTest.{pages_good}
use Rattle.idx_layout.specs.Layout.{header_bytes, new_page}
use Rattle.idx_insert_page.specs.Insertion.{inserted_buffer}
use Rattle.idx_path.specs.Room.{path_to, no_room}
use Rattle.idx_insert.specs.Calls.{has_control, insert_checks, insert_rule}
use Rattle.idx_insert.specs.Fresh.{printable, max_expression, expression_good, features_good, fresh_header, fresh_buffer, fresh_checks, fresh_rule}

-- insertion, refusal by refusal in its order: the checks before it hold, and its own fails
module _ (b key : List ℕ) (r : ℕ) where
  abbrev made : List ℕ
  made = inserted_buffer (key_length b) b key r

  pub refused_24 : header_good b ≡ false → insert_rule b key r ≡ left b (Err 24)
  unfolding insert_rule insert_checks
  refused_24 e = made_at made b 0 (insert_checks b key r) tt e

  module _ (header : header_good b ≡ true) where
    pub refused_27 : (length key ≡ key_length b → ⊥) → insert_rule b key r ≡ left b (Err 27)
    unfolding insert_rule insert_checks
    refused_27 other = made_at made b 1 (insert_checks b key r) (header, tt) (ne_eqb (length key) (key_length b) other)

    module _ (same : length key ≡ key_length b) where
      fits : eqb (length key) (key_length b) ≡ true
      fits = eq-eqb (length key) (key_length b) same

      pub refused_32 : has_control key ≡ true → insert_rule b key r ≡ left b (Err 32)
      unfolding insert_rule insert_checks
      refused_32 c = made_at made b 2 (insert_checks b key r) (header, (fits, tt)) (ap not c)

      module _ (clean : has_control key ≡ false) where
        pub refused_28 : r ≡ 0 → insert_rule b key r ≡ left b (Err 28)
        unfolding insert_rule insert_checks
        refused_28 z = made_at made b 3 (insert_checks b key r) (header, (fits, (ap not clean, tt))) (ap not (eq-eqb r 0 z))

        module _ (some : r ≡ 0 → ⊥) where
          number : not (eqb r 0) ≡ true
          number = ap not (ne_eqb r 0 some)

          pub refused_25 : pages_good b ≡ false → insert_rule b key r ≡ left b (Err 25)
          unfolding insert_rule insert_checks
          refused_25 e = made_at made b 4 (insert_checks b key r) (header, (fits, (ap not clean, (number, tt)))) e

          module _ (sound : pages_good b ≡ true) where
            pub refused_29 : (path_to (key_length b) b key r).present ≡ true → insert_rule b key r ≡ left b (Err 29)
            unfolding insert_rule insert_checks
            refused_29 e = made_at made b 5 (insert_checks b key r) (header, (fits, (ap not clean, (number, (sound, tt))))) (ap not e)

            module _ (absent : (path_to (key_length b) b key r).present ≡ false) where
              pub refused_30 : no_room b (path_to (key_length b) b key r) ≡ true → insert_rule b key r ≡ left b (Err 30)
              unfolding insert_rule insert_checks
              refused_30 e = made_at made b 6 (insert_checks b key r) (header, (fits, (ap not clean, (number, (sound, (ap not absent, tt)))))) (ap not e)

              pub accepted_pair : {out : List ℕ} → no_room b (path_to (key_length b) b key r) ≡ false → out ≡ inserted_buffer (key_length b) b key r
                  → insert_rule b key r ≡ left out (Ok tt)
              unfolding insert_rule insert_checks
              accepted_pair e q =
                  made_none made b (insert_checks b key r) (header, (fits, (ap not clean, (number, (sound, (ap not absent, (ap not e, tt)))))))
                  ∙ ap (λ (l : List ℕ). left l (Ok tt)) (sym q)

-- the two tests of bytes, as tests of each byte
pub control_any : (s : List ℕ) → has_control s ≡ list_any (λ c. ltb c 0x20) s
unfolding has_control
control_any [] = refl
control_any (c ∷ s) = ap (λ (x : Bool). ltb c 0x20 || x) (control_any s)

pub printable_all : (s : List ℕ) → printable s ≡ list_all (λ c. leb 0x20 c && leb c 0x7E) s
unfolding printable
printable_all [] = refl
printable_all (c ∷ s) = ap (λ (x : Bool). leb 0x20 c && leb c 0x7E && x) (printable_all s)

-- what an audit says that the call passes on
pub audit-refused : (b : List ℕ) (r : Refusal) → header_good b ≡ true → Audited b (refusal_number r) → (refusal_number r ≡ 25) × (pages_good b ≡ false)
audit-refused b r h a =
    let bad = audit_unsound b h a (refusal-some r) in (one_answer b (refusal_number r) 25 a (answer-unsound b h bad), bad)

-- the stores of a fresh index
pub fresh-stored : (b e xs : List ℕ) (k f j : ℕ) {end n : ℕ} {l1 l2 : List ℕ} → end ≡ min_bytes → l1 ≡ put b 0 (header_bytes page_size end k f e)
    → n ≡ 0 → l2 ≡ new_page l1 page_size 3 no_page no_page (items j n xs) → l2 ≡ fresh_buffer k f e b
unfolding fresh_buffer fresh_header items
fresh-stored b e xs k f j z e1 en e2 = (rw en at e2) ∙ rw (e1, z)

-- fresh, refusal by refusal in its order
module _ (b : List ℕ) (k f : ℕ) (e : List ℕ) where
  pub fresh_27 : key_length_good k ≡ false → fresh_rule b k f e ≡ left b (Err 27)
  unfolding fresh_rule fresh_checks
  fresh_27 t = made_at (fresh_buffer k f e b) b 0 (fresh_checks b k f e) tt t

  module _ (key : key_length_good k ≡ true) where
    pub fresh_24 : (expression_good e && features_good f) ≡ false → fresh_rule b k f e ≡ left b (Err 24)
    unfolding fresh_rule fresh_checks
    fresh_24 t = made_at (fresh_buffer k f e b) b 1 (fresh_checks b k f e) (key, tt) t

    module _ (good : (expression_good e && features_good f) ≡ true) where
      pub fresh_30 : length b < min_bytes → fresh_rule b k f e ≡ left b (Err 30)
      unfolding fresh_rule fresh_checks
      fresh_30 h = made_at (fresh_buffer k f e b) b 2 (fresh_checks b k f e) (key, (good, tt)) (lt-leb min_bytes (length b) h)

      pub fresh-made : {out : List ℕ} → min_bytes ≤ length b → out ≡ fresh_buffer k f e b → fresh_rule b k f e ≡ left out (Ok tt)
      unfolding fresh_rule fresh_checks
      fresh-made h q =
          made_none (fresh_buffer k f e b) b (fresh_checks b k f e) (key, (good, (le-leb min_bytes (length b) h, tt)))
          ∙ ap (λ (l : List ℕ). left l (Ok tt)) (sym q)

-- an expression that is good is not too long
pub expression-most : (e : List ℕ) → expression_good e ≡ true → length e ≤ max_expression
unfolding expression_good
expression-most e t = leb-true (length e) max_expression (both (leb 1 (length e)) (leb (length e) max_expression) (both _ (printable e) t).0).1

-- features that are good are 0 or 1
pub features-most : (f : ℕ) → features_good f ≡ true → f ≤ max_features
features-most f t = leb-true f max_features t
