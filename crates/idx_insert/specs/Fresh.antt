-- Rules: what fresh answers and leaves, "(27, 24, 30)", as the whole buffer.
use Rattle.std.specs.Prelude.{ℕ, Bool, true, ◌&&◌, List, [], ◌∷◌, length, leb}
use Rattle.refusal.specs.After.{After, made_unless}
use Rattle.refusal.specs.After.{Change}
use Rattle.octets.specs.Store.{put}
use Rattle.idx_page.specs.Header.{min_bytes, max_features, page_size, no_page, key_length_good}
use Rattle.idx_layout.specs.Layout.{header_bytes, new_page}

-- "bytes 0x20-0x7E"
unfoldable pub printable : List ℕ → Bool
printable [] = true
printable (c ∷ s) = leb 0x20 c && leb c 0x7E && printable s

-- the header has room for an expression of 220 bytes, "16-235"
abbrev pub max_expression : ℕ
max_expression = 220

-- "expression of 1 to 220 bytes 0x20-0x7E, else 24"
unfoldable pub expression_good : List ℕ → Bool
expression_good e = leb 1 (length e) && leb (length e) max_expression && printable e

-- "Refusal 24 admits 0 and 1, .. a fresh index is told which, else 24"
abbrev pub features_good : ℕ → Bool
features_good f = leb f max_features

-- "Root 512, free pointer 0xFFFFFFFF, F 1,024, key length k, features" f, "the expression; .. all else in the 1,024 zero"
unfoldable pub fresh_header : ℕ → ℕ → List ℕ → List ℕ
fresh_header k f e = header_bytes page_size min_bytes k f e

-- "the page at 512 has attribute 3, count 0, links none; .. later bytes kept"
unfoldable pub fresh_buffer : ℕ → ℕ → List ℕ → List ℕ → List ℕ
fresh_buffer k f e b = new_page (put b 0 (fresh_header k f e)) page_size 3 no_page no_page []

-- the checks in their order, "27, 24, 30": 27 for "k not 1 to 100", 24 for the expression or the features, 30 for a buffer below 1,024
unfoldable pub fresh_checks : List ℕ → ℕ → ℕ → List ℕ → List (Bool × ℕ)
fresh_checks b k f e = (key_length_good k, 27) ∷ (expression_good e && features_good f, 24) ∷ (leb min_bytes (length b), 30) ∷ []

-- what fresh leaves and answers: a refusal leaves the buffer as it was
unfoldable pub fresh_rule : List ℕ → ℕ → ℕ → List ℕ → After Change
fresh_rule b k f e = made_unless (fresh_checks b k f e) (fresh_buffer k f e b) b
