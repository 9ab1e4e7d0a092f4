-- The search ends at an equal pair or, by the header's features, at an equal key; or the leaf does not have it.
use Rattle.std.proofs.Common.{sym, ◌∙◌, ◌+◌, ◌≡◌, ◌≤◌, true, arith, ℕ, List, length}
use Rattle.octets.specs.Bytes.{to_be32}
use Rattle.idx_page.specs.Header.{features, max_key, is_page}
use Rattle.idx_page.specs.HeaderLaws.{is-page}
use Rattle.idx_page.specs.EntryOrder.{item_order}
use Rattle.idx_page.specs.PageLaws.{within-entry}
use Rattle.idx_page.specs.Reading.{Item}
use Rattle.idx_page.specs.Within.{Within}
use Rattle.idx_leaf.specs.Leaf.{items_in, stored}
use Rattle.idx_leaf.specs.Given.{Listed}
use Rattle.idx_leaf.specs.EntryLaws.{listed-within, passed_count}
use Rattle.idx_leaf.specs.SearchLaws.{search_le, search_absent, there_record, there-key}
use Rattle.idx_leaf.proofs.is_present.Goals as goal

-- the page's entries are counted
counted : {b : List ℕ} {k p n : ℕ} → (k ≤ max_key) × (is_page (length b) p ≡ true) → n ≡ length (items_in k b p) → Listed b k p n
counted h e = record { key = h.0; page = h.1; count = e }

-- the entry where the search has ended lies within the page
inside : (f : ℕ) (item : Item) {b : List ℕ} {k p n i : ℕ} → Listed b k p n → i ≡ passed_count (item_order f) item (items_in k b p) → (i ≡ n → ⊥)
    → Within b k p (i + 1)
inside f item l e d = within-entry _ (listed-within l) (omega (arith, search_le (item_order f) item l e, d))

pub returns-then-i-count : goal.returns-then-i-count
returns-then-i-count c =
    let args = c.args in
    search_absent (item_order (features args.index.now)) (stored args.key.now args.number.0) (counted c.requires c.entry_count-count.ensures) c.place-i.ensures
    c.if-i-count.true

pub several-requires : goal.several-requires
several-requires c = let p = is-page _ _ c.requires.1 in omega arith

pub compare_pair-requires : goal.compare_pair-requires
compare_pair-requires c =
    let args = c.args in
    inside (features args.index.now) (stored args.key.now args.number.0) (counted c.requires c.entry_count-count.ensures) c.place-i.ensures c.if-i-count.false

pub returns-then-several : goal.returns-then-several
returns-then-several c =
    let args = c.args in
    c.is_le.ensures ∙ c.compare_pair.ensures.up_to
    ∙ there_record (features args.index.now) (sym c.several.ensures ∙ c.if-several.true) (stored args.key.now args.number.0)
    (counted c.requires c.entry_count-count.ensures) c.place-i.ensures c.if-i-count.false

pub compare_entry-requires : goal.compare_entry-requires
compare_entry-requires c =
    let args = c.args in
    inside (features args.index.now) (stored args.key.now args.number.0) (counted c.requires c.entry_count-count.ensures) c.place-i.ensures c.if-i-count.false

pub returns : goal.returns
returns c =
    let args = c.args in
    c.is_eq.ensures
    ∙ there-key (features args.index.now) (sym c.several.ensures ∙ c.if-several.false) args.key.now (to_be32 args.number.0)
    (counted c.requires c.entry_count-count.ensures) c.place-i.ensures c.if-i-count.false c.compare_entry.ensures
