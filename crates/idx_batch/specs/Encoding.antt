-- Rules: a list of calls as bytes, so that code can be lent one. A call is its kind, 0 for a lookup, 1 for an insertion and 2 for a removal, the length of its
-- key in two bytes, the key, and for an insertion or a removal its record number in four bytes. Numbers are least significant byte first. The list ends where
-- no whole call stands.
use Rattle.std.specs.Prelude.{ℕ, zero, suc, ◌+◌, ◌*◌, ◌/◌, ◌^◌, ◌<◌, Bool, true, false, cond, ◌&&◌, List, [], ◌∷◌, ◌++◌, eqb, leb, length}
use Rattle.octets.specs.Bytes.{byte_at, le16, le32, to_le16, to_le32}
use Rattle.octets.specs.Store.{window}
use Rattle.tree.specs.Book.{Call, insertion, removal_of, lookup_of}
use Rattle.idx_book.specs.Book.{Calls}

-- of the call at an offset: its key, the offset past the key, and the offset past the call, four bytes further for the kinds 1 and 2
abbrev pub key_in : List ℕ → ℕ → List ℕ
key_in s at = window s (at + 3) (le16 s (at + 1))

abbrev pub key_end : List ℕ → ℕ → ℕ
key_end s at = at + 3 + le16 s (at + 1)

abbrev pub call_end : List ℕ → ℕ → ℕ
call_end s at = key_end s at + 4 * ((byte_at s at + 1) / 2)

-- a whole call of one of the three kinds stands at an offset
unfoldable pub is_call : List ℕ → ℕ → Bool
is_call s at = leb (at + 3) (length s) && (leb (byte_at s at) 2 && leb (call_end s at) (length s))

-- the call that stands there
unfoldable pub call_at : List ℕ → ℕ → Call (List ℕ)
call_at s at =
    let key = key_in s at in
    let number = le32 s (key_end s at) in
    cond (eqb (byte_at s at) 0) (lookup_of key) (cond (eqb (byte_at s at) 2) (removal_of key number) (insertion key number))

-- the calls from an offset on, at most as many as the first argument says
unfoldable pub calls_from : ℕ → List ℕ → ℕ → Calls
calls_from zero s at = []
calls_from (suc n) s at = elim (is_call s at) [ true ↦ call_at s at ∷ calls_from n s (call_end s at) | false ↦ [] ]

-- all calls of a list. A call has at least three bytes, so there are at most as many calls as bytes
unfoldable pub calls_in : List ℕ → Calls
calls_in s = calls_from (length s) s 0

-- the bytes of a call, and of a list of calls
abbrev pub framed : ℕ → List ℕ → List ℕ → List ℕ
framed kind key number = kind ∷ (to_le16 (length key) ++ (key ++ number))

abbrev pub call_bytes : Call (List ℕ) → List ℕ
call_bytes (lookup_of key) = framed 0 key []
call_bytes (insertion key r) = framed 1 key (to_le32 r)
call_bytes (removal_of key r) = framed 2 key (to_le32 r)

abbrev pub list_bytes : Calls → List ℕ
list_bytes [] = []
list_bytes (c ∷ calls) = call_bytes c ++ list_bytes calls

-- a call that can be given as bytes: its key is shorter than 65,536 bytes, and its record number fits four bytes
abbrev pub Encodable : Call (List ℕ) → Type 0
Encodable (lookup_of key) = length key < 2 ^ 16
Encodable (insertion key r) = (length key < 2 ^ 16) × (r < 2 ^ 32)
Encodable (removal_of key r) = (length key < 2 ^ 16) × (r < 2 ^ 32)
