-- Laws: a list of calls is read back from its bytes, so every list with keys shorter than 65,536 bytes can be run; and the bound in `calls_in` never cuts a
-- list short. Assumes nothing.
use Prim.Native.Nat.{ℕ, zero, suc, ◌+◌, ◌*◌, ◌/◌, ◌%◌, ◌^◌, ◌≤◌, ◌<◌}
use Rattle.std.specs.Prelude.{◌≡◌, refl, true, drop}
use Rattle.std.proofs.Common.{sym, subst, ◌∙◌, drop_at, take_all, le-leb}
use Rattle.std.proofs.Math.Path.{ap}
use mathlib.Core.List.{List, [], ◌∷◌, ◌++◌, append_assoc}
use native.Mathlib.Omega.{arith}
use Rattle.std.proofs.Math.ListN.{length, take, length-append}
use Rattle.std.proofs.lemmas.List.{get_or_at}
use Rattle.std.proofs.Math.Seq.{get_or-append-add, drop-append-add, take_at}
use Rattle.basis.specs.Lists.{All}
use Rattle.basis.specs.Tests.{either}
use Rattle.octets.specs.Bytes.{byte_at, le16, le32, to_le16, to_le32}
use Rattle.octets.specs.Store.{window}
use Rattle.octets.specs.NumberLaws.{length-to_le32, le32-window, le32-to_le32}
use Rattle.tree.specs.Book.{Call, insertion, removal_of, lookup_of}
use Rattle.idx_book.specs.Book.{Calls}
use Rattle.idx_batch.specs.Encoding.{key_in, key_end, call_end, is_call, call_at, calls_from, calls_in, framed, call_bytes, list_bytes, Encodable}
use Rattle.idx_batch.specs.EncodingLaws.{whole, no_head, lookup-there, removal_there, insertion-there, calls-more, calls-none}
use Rattle.idx_batch.specs.Run.{answer_size, made_calls}

-- a bound of a third of the bytes is enough: a greater one gives the same calls
pub calls-enough : (f n : ℕ) (s : List ℕ) (at : ℕ) → length s ≤ at + 3 * f → calls_from (f + n) s at ≡ calls_from f s at
calls-enough zero n s at h = let e = no_head s at (omega arith) in calls-none s at (0 + n) e ∙ sym (calls-none s at 0 e)
calls-enough (suc f) n s at h = either (is_call s at)
    (λ e.
    let w = whole s at e in
    let z : suc f + n ≡ suc (f + n) = omega arith in
    rw (z, calls-more s at (f + n) e, calls-more s at f e) (ap (λ (l : Calls). call_at s at ∷ l) (calls-enough f n s (call_end s at) (omega arith))))
    (λ e. calls-none s at (suc f + n) e ∙ sym (calls-none s at (suc f) e))

is_whole : (s : List ℕ) (at : ℕ) → at + 3 ≤ length s → byte_at s at ≤ 2 → call_end s at ≤ length s → is_call s at ≡ true
unfolding is_call
is_whole s at h k e = rw (le-leb (at + 3) (length s) h, le-leb (byte_at s at) 2 k, le-leb (call_end s at) (length s) e)

-- a call with `pre` before it and `post` behind it
module _ (pre : List ℕ) (kind : ℕ) (key number post : List ℕ) (short : length key < 2 ^ 16) where
  byte-there : byte_at (pre ++ (framed kind key number ++ post)) (length pre) ≡ kind
  byte-there = get_or_at pre kind _ 0 (length pre) refl

  size-there : le16 (pre ++ (framed kind key number ++ post)) (length pre + 1) ≡ length key
  unfolding le16 to_le16
  size-there =
      let s = pre ++ (framed kind key number ++ post) in
      let a : byte_at s (length pre + 1) ≡ length key % 256 = get_or-append-add pre (framed kind key number ++ post) 1 0 in
      let z : length pre + 1 + 1 ≡ length pre + 2 = omega arith in
      let b : byte_at s (length pre + 1 + 1) ≡ length key / 256 % 256 = rw z (get_or-append-add pre (framed kind key number ++ post) 2 0) in
      omega arith

  key-there : key_in (pre ++ (framed kind key number ++ post)) (length pre) ≡ key
  unfolding window to_le16
  key-there =
      rw (size-there, drop-append-add pre (framed kind key number ++ post) 3, append_assoc key number post)
      (take_at key (number ++ post) (length key) refl)

  behind : drop (length pre + 3 + length key) (pre ++ (framed kind key number ++ post)) ≡ number ++ post
  unfolding to_le16
  behind =
      let z : length pre + 3 + length key ≡ length pre + suc (suc (suc (length key))) = omega arith in
      rw (z, drop-append-add pre (framed kind key number ++ post) (suc (suc (suc (length key)))), append_assoc key number post)
      (drop_at key (number ++ post) (length key) refl)

  long : length (pre ++ (framed kind key number ++ post)) ≡ length pre + 3 + length key + length number + length post
  unfolding to_le16
  long = simp length-append (omega arith)

-- the call c of `size` bytes stands at an offset
record There (s : List ℕ) (at : ℕ) (c : Call (List ℕ)) (size : ℕ) : Type 0 where
  whole_call : is_call s at ≡ true
  same_call : call_at s at ≡ c
  next : call_end s at ≡ at + size

framed-length : (kind : ℕ) (key number : List ℕ) → length (framed kind key number) ≡ 3 + length key + length number
unfolding to_le16
framed-length kind key number = simp length-append (omega arith)

-- a call of each kind stands where its bytes are
module _ (pre key post : List ℕ) (short : length key < 2 ^ 16) where
  lookup-back : There (pre ++ (framed 0 key [] ++ post)) (length pre) (lookup_of key) (length (framed 0 key []))
  lookup-back =
      let s = pre ++ (framed 0 key [] ++ post) in
      let a = byte-there pre 0 key [] post short in
      let b = size-there pre 0 key [] post short in
      let l = long pre 0 key [] post short in
      let n = framed-length 0 key [] in
      record {
        whole_call = is_whole s (length pre) (omega arith) (omega arith) (omega arith);
        same_call = lookup-there s (length pre) a ∙ ap lookup_of (key-there pre 0 key [] post short);
        next = omega arith;
      }

  number-back : (kind r : ℕ) → r < 2 ^ 32
      → le32 (pre ++ (framed kind key (to_le32 r) ++ post)) (key_end (pre ++ (framed kind key (to_le32 r) ++ post)) (length pre)) ≡ r
  unfolding window
  number-back kind r r32 =
      let s = pre ++ (framed kind key (to_le32 r) ++ post) in
      rw (size-there pre kind key (to_le32 r) post short)
      (sym (le32-window s (length pre + 3 + length key))
      ∙ ap (λ (l : List ℕ). le32 l 0)
      (ap (λ (l : List ℕ). take 4 l) (behind pre kind key (to_le32 r) post short) ∙ take_at (to_le32 r) post 4 (length-to_le32 r))
      ∙ le32-to_le32 r r32)

  removal_back : (r : ℕ) → r < 2 ^ 32 → There (pre ++ (framed 2 key (to_le32 r) ++ post)) (length pre) (removal_of key r) (length (framed 2 key (to_le32 r)))
  removal_back r r32 =
      let s = pre ++ (framed 2 key (to_le32 r) ++ post) in
      let a = byte-there pre 2 key (to_le32 r) post short in
      let b = size-there pre 2 key (to_le32 r) post short in
      let l = long pre 2 key (to_le32 r) post short in
      let n = framed-length 2 key (to_le32 r) in
      let f = length-to_le32 r in
      record {
        whole_call = is_whole s (length pre) (omega arith) (omega arith) (omega arith);
        same_call = removal_there s (length pre) a ∙ rw (key-there pre 2 key (to_le32 r) post short, number-back 2 r r32);
        next = omega arith;
      }

  insertion-back : (r : ℕ) → r < 2 ^ 32 → There (pre ++ (framed 1 key (to_le32 r) ++ post)) (length pre) (insertion key r) (length (framed 1 key (to_le32 r)))
  insertion-back r r32 =
      let s = pre ++ (framed 1 key (to_le32 r) ++ post) in
      let a = byte-there pre 1 key (to_le32 r) post short in
      let b = size-there pre 1 key (to_le32 r) post short in
      let l = long pre 1 key (to_le32 r) post short in
      let n = framed-length 1 key (to_le32 r) in
      let f = length-to_le32 r in
      record {
        whole_call = is_whole s (length pre) (omega arith) (omega arith) (omega arith);
        same_call = insertion-there s (length pre) (λ z. omega arith) (λ z. omega arith) ∙ rw (key-there pre 1 key (to_le32 r) post short, number-back 1 r r32);
        next = omega arith;
      }

there : (pre : List ℕ) (c : Call (List ℕ)) (post : List ℕ) → Encodable c → There (pre ++ (call_bytes c ++ post)) (length pre) c (length (call_bytes c))
there pre (lookup_of key) post short = lookup-back pre key post short
there pre (insertion key r) post e = insertion-back pre key post e.0 r e.1
there pre (removal_of key r) post e = removal_back pre key post e.0 r e.1

-- a list of calls behind other bytes
list_back : (calls : Calls) → All Encodable calls → (pre : List ℕ) (f : ℕ) → length calls ≤ f → calls_from f (pre ++ list_bytes calls) (length pre) ≡ calls
list_back [] a pre f h = calls-none (pre ++ []) (length pre) f (no_head (pre ++ []) (length pre) (simp length-append (omega arith)))
list_back (c ∷ calls) a pre zero h = absurd (omega arith)
list_back (c ∷ calls) a pre (suc f) h =
    let s = pre ++ (call_bytes c ++ list_bytes calls) in
    let t = there pre c (list_bytes calls) a.0 in
    let e : call_end s (length pre) ≡ length (pre ++ call_bytes c) = t.next ∙ sym (length-append pre (call_bytes c)) in
    let z : s ≡ (pre ++ call_bytes c) ++ list_bytes calls = sym (append_assoc pre (call_bytes c) (list_bytes calls)) in
    let rest : calls_from f s (length (pre ++ call_bytes c)) ≡ calls =
    ap (λ (l : List ℕ). calls_from f l (length (pre ++ call_bytes c))) z ∙ list_back calls a.1 (pre ++ call_bytes c) f (omega arith) in
    calls-more s (length pre) f t.whole_call ∙ rw (t.same_call, e) (ap (λ (l : Calls). c ∷ l) rest)

call_long : (c : Call (List ℕ)) → 1 ≤ length (call_bytes c)
call_long (lookup_of key) = omega arith
call_long (insertion key r) = omega arith
call_long (removal_of key r) = omega arith

list-long : (calls : Calls) → length calls ≤ length (list_bytes calls)
list-long [] = omega arith
list-long (c ∷ calls) = rw (length-append (call_bytes c) (list_bytes calls)) (omega (arith, call_long c, list-long calls))

-- Theorem: a list of calls is read back from its bytes, and all its calls are made if there is room for all answers
module _ (calls : Calls) (a : All Encodable calls) where
  pub calls_back : calls_in (list_bytes calls) ≡ calls
  unfolding calls_in
  calls_back = list_back calls a [] (length (list_bytes calls)) (list-long calls)

  pub made-whole : (out : List ℕ) → answer_size * length calls ≤ length out → made_calls (list_bytes calls) out ≡ calls
  made-whole out h = rw calls_back (take_all (length out / answer_size) calls (omega arith))
